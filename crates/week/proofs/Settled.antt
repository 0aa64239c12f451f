-- Each public call's contract settles what it gives: no second outcome meets it.
use Prim.Native.Nat.{ℕ, ◌≤◌}
use native.Mathlib.Omega.{arith}
use mathlib.Core.List.{List, []}
use mathlib.Core.Path.{◌≡◌, sym, ◌∙◌}
use lib.ListN.{length, take}
use lib.Seq.{length-take-le, take_all}
use Rattle.week.specs.Week.{week_of}
use Rattle.week.specs.Reading.{Sound, ReadOf, GivesUnread, GivesSite}
use Rattle.week.specs.declared.Verdict.{Verdict}
use Rattle.week.specs.declared.Week.{Week}

pub new_settled : {r s : Week} → r ≡ week_of [] → s ≡ week_of [] → r ≡ s
new_settled p q = p ∙ sym q

-- so much of a buffer as was read is a file that it holds whole
pub read_whole : (buffer : List ℕ) (n : ℕ) → n ≤ length buffer → ReadOf (take n buffer) buffer n
read_whole buffer n h = sym (take_all (length buffer) (take n buffer) (omega (arith, length-take-le n buffer h)))

module _ {w : Week} (sound : Sound w) where
  pub with_unread_settled : {r s : Week} → GivesUnread w r → GivesUnread w s → r ≡ s
  with_unread_settled p q = (p sound.over sound.is).0 ∙ sym (q sound.over sound.is).0

  pub with_site_settled : {r s : Week × Verdict} (events : List ℕ) (n : ℕ) (output : List ℕ) (m : ℕ) → n ≤ length events → m ≤ length output
      → GivesSite w events n output m r → GivesSite w events n output m s → r ≡ s
  with_site_settled events n output m h k p q =
      p sound.over (take n events) (take m output) sound.is (read_whole events n h) (read_whole output m k)
      ∙ sym (q sound.over (take n events) (take m output) sound.is (read_whole events n h) (read_whole output m k))
