-- Another face of a layer: code that keeps the layer's states in another form, and whose calls do what the layer's calls do on the states that they stand
-- for. What the layer brings for the demands, such a face brings too.
use mathlib.Core.Path.{◌≡◌, sym, ap, ◌∙◌, subst}
use Rattle.demands.specs.Demands.{Layer, SeenOf}
use Rattle.demands.proofs.Argument.{Grounds}

module _ (L : Layer) (G : Grounds L) (Form : Type 0) (Does : Form → L.kind.Call → Form → SeenOf L → Type 0) (New : Form → L.kind.State → Type 0) (Premise : Form → Type 0)
    (state_in : Form → L.State) (form_of : L.State → Form) where
  abbrev pub face : Layer
  face =
      record {
        kind = L.kind;
        State = Form;
        Does = Does;
        New = New;
        Premise = Premise;
        Load = L.Load;
        accepted = L.accepted;
        left = L.left;
        waiting = L.waiting;
      }

  pub record Facing : Type 0 where
    pub starts : (i : Form) (m : L.kind.State) → New i m → (s : L.State) × L.New s m × (i ≡ form_of s)
    pub as_layer : {i j : Form} {c : L.kind.Call} {e : SeenOf L} → Does i c j e → (s : L.State) × L.Does (state_in i) c s e × (j ≡ form_of s)
    pub from_layer : {i : Form} {c : L.kind.Call} {s : L.State} {e : SeenOf L} → L.Does (state_in i) c s e → Does i c (form_of s) e
    pub read_again : (s : L.State) → L.Premise s → state_in (form_of s) ≡ s
    pub premise : (i : Form) → i ≡ form_of (state_in i) → L.Premise (state_in i) → Premise i

  module _ (F : Facing) where
    -- The state that a form stands for stands for the definitions', and the form is its own.
    record Stands (i : Form) (m : L.kind.State) : Type 0 where
      stands : G.Stands (state_in i) m
      form : i ≡ form_of (state_in i)

    stands_as : (s : L.State) (m : L.kind.State) → G.Stands s m → (i : Form) → i ≡ form_of s → Stands i m
    stands_as s m S i e =
        let read : state_in i ≡ s = ap state_in e ∙ F.read_again s (G.premise s m S) in
        record { stands = subst (λ (t : L.State). G.Stands t m) (sym read) S; form = e ∙ ap form_of (sym read) }

    pub grounds : Grounds face
    grounds =
        record {
          Stands = Stands;
          begins = λ i m new. let s = F.starts i m new in stands_as s.0 m (G.begins s.0 m s.1) i s.2;
          follows = λ i m c j e S d.
              let p = F.as_layer d in
              let f = G.follows (state_in i) m c p.0 e S.stands p.1 in
              record { stands_then = stands_as p.0 (L.kind.does m c).state f.stands_then j p.2; seen_same = f.seen_same };
          same_form = λ i j m S T. S.form ∙ ap form_of (G.same_form (state_in i) (state_in j) m S.stands T.stands) ∙ sym T.form;
          premise = λ i m S. F.premise i S.form (G.premise (state_in i) m S.stands);
          outcome = λ i m S c. let o = G.outcome (state_in i) m S.stands c in (form_of o.0, o.1, F.from_layer o.2);
          refused_leaves = G.refused_leaves;
          balanced = λ i m new. let s = F.starts i m new in G.balanced s.0 m s.1;
          account = G.account;
          pair_bound = G.pair_bound;
          exact_bound = G.exact_bound;
        }
