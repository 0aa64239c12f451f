-- A remark is one line, whatever the name of the site's output holds: no byte of a name is shown as a line feed, and no digit is one.
--     no_name_forges_a_line   what is remarked of a site ends in a line feed and has no other
use Prim.Native.Nat.{ℕ, ◌+◌}
use native.Mathlib.Decide.{dec_lt, ℕ_discrete}
use native.Mathlib.Omega.{arith}
use mathlib.Core.Bool.{Bool, cond}
use mathlib.Core.List.{List, [], ◌∷◌, ◌++◌, map, append_assoc}
use mathlib.Core.Path.{◌≡◌, refl, sym, ap, ◌∙◌}
use borrow.Author.Tests.{ne_eqb}
use Rattle.lines.specs.Text.{bytes}
use Rattle.lines.specs.Written.{digit_byte, decimal, field}
use Rattle.lines.proofs.Decimal.{decimal_of_digit, decimal_and_digit, by_digits}
use Rattle.week.specs.Site.{line_feeds}
use Rattle.week.specs.declared.Verdict.{Verdict}
use Rattle.week.specs.declared.Verdict.TheVariants.{Follows, Ended, Differs, EventsUnread, OutputUnread}
use Rattle.sheet_text.specs.Sheet.{shown, name_text, remark_text}
use Rattle.sheet_text.proofs.RemarkLaws.{control_shown, delete_shown, other_shown}

pub record OneLine (text : List ℕ) : Type 0 where
  pub body : List ℕ
  pub is : text ≡ body ++ bytes "\n"
  pub no_feed : line_feeds body ≡ 0

-- ---- texts without a line feed

feeds_append : (a b : List ℕ) → line_feeds (a ++ b) ≡ line_feeds a + line_feeds b
unfolding line_feeds
feeds_append [] b = omega arith
feeds_append (x ∷ a) b = omega (arith, feeds_append a b)

-- a byte that is no line feed
adds_no_feed : (x : ℕ) (text : List ℕ) → (x ≡ 10 → ⊥) → line_feeds (x ∷ text) ≡ line_feeds text
unfolding line_feeds
adds_no_feed x text n = ap (λ (t : Bool). cond t 1 0 + line_feeds text) (ne_eqb x 10 n) ∙ omega arith

no_feed_in_digit : (d : ℕ) → line_feeds (digit_byte d ∷ []) ≡ 0
unfolding line_feeds
no_feed_in_digit d = adds_no_feed (digit_byte d) [] (λ e. omega arith)

no_feed_in_number : (n : ℕ) → line_feeds (decimal n) ≡ 0
no_feed_in_number =
    by_digits (λ n. line_feeds (decimal n) ≡ 0)
    (λ d h. ap line_feeds (decimal_of_digit d h) ∙ no_feed_in_digit d)
    (λ n d p h so_far. omega (arith, ap line_feeds (decimal_and_digit n d p h), feeds_append (decimal n) (digit_byte d ∷ []), so_far, no_feed_in_digit d))

no_feed_in_field : (word : List ℕ) (n : ℕ) → line_feeds word ≡ 0 → line_feeds (word ++ decimal n) ≡ 0
no_feed_in_field word n h = omega (arith, feeds_append word (decimal n), h, no_feed_in_number n)

-- ---- names

no_feed_shown : (byte : ℕ) → shown byte ≡ 10 → ⊥
no_feed_shown byte e =
    elim (dec_lt byte 32) [
      | yes low ↦ omega (arith, control_shown byte low)
      | no high ↦ elim (ℕ_discrete byte 127) [
        | yes delete ↦ omega (arith, delete_shown byte (omega arith) delete)
        | no other ↦ omega (arith, other_shown byte (omega arith) other)
      ]
    ]

no_feed_in_name : (name : List ℕ) → line_feeds (map shown name) ≡ 0
unfolding line_feeds
no_feed_in_name [] = refl
no_feed_in_name (byte ∷ name) = adds_no_feed (shown byte) (map shown name) (no_feed_shown byte) ∙ no_feed_in_name name

-- ---- remarks

-- what is said of a site, between its number and its name
said_on_one_line : (site : ℕ) (said name : List ℕ) → line_feeds said ≡ 0 → OneLine (field "site=" site ++ said ++ name_text name)
unfolding name_text line_feeds
said_on_one_line site said name h =
    let begun = field "site=" site ++ said in
    let named = bytes " output=" ++ map shown name in
    record {
      body = begun ++ named;
      is = sym (append_assoc begun named (bytes "\n"));
      no_feed =
          omega (
            arith,
            feeds_append begun named,
            feeds_append (field "site=" site) said,
            no_feed_in_field (bytes "site=") site refl,
            h,
            feeds_append (bytes " output=") (map shown name),
            no_feed_in_name name,
          );
    }

pub no_name_forges_a_line : (site : ℕ) (v : Verdict) (name : List ℕ) → (v ≡ Follows → ⊥) → OneLine (remark_text site v name)
unfolding remark_text line_feeds
no_name_forges_a_line site Follows name n = absurd (n refl)
no_name_forges_a_line site (Ended line) name n = said_on_one_line site (field " summed=yes bad=" line) name (no_feed_in_field (bytes " summed=yes bad=") line refl)
no_name_forges_a_line site (Differs line) name n = said_on_one_line site (field " summed=no differs=" line) name (no_feed_in_field (bytes " summed=no differs=") line refl)
no_name_forges_a_line site EventsUnread name n = said_on_one_line site (bytes " summed=no unread=events") name refl
no_name_forges_a_line site OutputUnread name n = said_on_one_line site (bytes " summed=no unread=output") name refl
