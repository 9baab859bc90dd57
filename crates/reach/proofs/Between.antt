-- Reach between two tables: those that Stamp left, which hold the clauses f, and those that now hold a sweep of f (`swept_reach`). Assumes nothing.
use Prim.Native.Nat.{ℕ, ◌<◌}
use native.Mathlib.Omega.{arith}
use mathlib.Core.Path.{◌≡◌, refl, sym, ap, subst, subst₂, ◌∙◌}
use mathlib.Core.List.{List, [], ◌∷◌, map, Memᴰ}
use lib.ListN.{length, get_or, length-map}
use lib.IntN.{ℤ, neg_ℤ}
use Rattle.literal.specs.Literals.{Literal, slot_of, twin}
use Rattle.literal.proofs.Laws.{slot_twin}
use Rattle.walk.specs.Walk.{Stamps}
use Rattle.walk.specs.Forest.{Reach}
use Rattle.state.specs.declared.State.{State}
use Rattle.tables.specs.Tables.{Tables}
use Rattle.visits.proofs.Forming.{shape_formed, clause_fits}
use Rattle.visits.proofs.Fitting.{fit_member}
use Rattle.sound.specs.Formula.{Clause, dropped, standing, graph}
use Rattle.sound.specs.Sweep.{sweep_visit, sweep_first}
use Rattle.sound.proofs.Sound.{StampedFormula, sweep_since}
use Rattle.sound.proofs.ReachKept.{sweep_reach, sweep_reach_same}
use Rattle.sound.proofs.ReachKept as slots
use Rattle.moves.specs.Core.{Core}
use Rattle.moves.specs.Moves.{Freshness, fresh}
use Rattle.paper.specs.Clauses.{clause_at}
use Rattle.paper.proofs.Graph.{complement}
use Rattle.refinement.specs.Represented.{clause_of}
use Rattle.refinement.proofs.Standing.{stands_clause}
use Rattle.refinement.proofs.Held.{HeldBy}
use Rattle.reach.specs.Reach.{Reached, Shortened, ReachKept}
use Rattle.reach.proofs.Swept.{SweptOf, first_length}
use Rattle.reach.proofs.Graph.{from_path, carried}
use Rattle.reach.proofs.Whole.{pairs_whole, all_whole}

-- ---- what Stamp leaves

-- the clauses are f, and no visit is made
pub record Begun (vars : ℕ) (σ : Stamps) (f : List Clause) (v : ℕ) (k : Core) (w : Freshness) : Type 0 where
  pub variables : v ≡ vars
  pub clauses : k.clauses ≡ f
  pub cursor : w ≡ fresh σ 0

-- ---- tables that hold f, and tables that hold a sweep of it

two_literals : (C : List ℤ) → length C ≡ 2 → (a : ℤ) × (b : ℤ) × (C ≡ a ∷ b ∷ [])
two_literals [] e = absurd (omega (arith, e))
two_literals (a ∷ []) e = absurd (omega (arith, e))
two_literals (a ∷ b ∷ []) e = (a, b, refl)
two_literals (a ∷ b ∷ c ∷ C) e = absurd (omega (arith, e))

one_literal : (C : List ℤ) (x : ℕ) → map slot_of C ≡ x ∷ [] → (p : ℤ) × (C ≡ p ∷ []) × (slot_of p ≡ x)
one_literal [] x e = absurd (let n : length (map slot_of []) ≡ 1 = ap length e in omega arith)
one_literal (p ∷ []) x e = (p, refl, (cc))
one_literal (p ∷ q ∷ C) x e = absurd (let n : length (map slot_of (p ∷ q ∷ C)) ≡ 1 = ap length e in omega arith)

module _ (vars : ℕ) (σ : Stamps) (f : List Clause) (R : StampedFormula vars f σ) {t t' : Tables} {st st' : State} (B : HeldBy (Begun vars σ f) t st) (H : HeldBy (SweptOf vars σ f) t' st') where
  abbrev count : ℕ
  count = H.so.count

  abbrev then : Core
  then = B.core

  abbrev now : Core
  now = H.core

  number : length f ≡ st.n
  number = ap length (sym B.so.clauses) ∙ B.tied.number

  same_n : st'.n ≡ st.n
  same_n = sym H.tied.number ∙ ap length H.so.swept ∙ first_length (sweep_visit σ) count f ∙ number

  same_v : st.v ≡ st'.v
  same_v = B.so.variables ∙ sym H.so.variables

  clauses_then : (i : ℕ) → i < st.n → get_or f i dropped ≡ clause_of t.clauses t.literals i
  clauses_then i lt = ap (λ (x : List Clause). get_or x i dropped) (sym B.so.clauses) ∙ B.tied.clauses i lt

  clauses_now : (i : ℕ) → i < st.n → get_or (sweep_first count σ f) i dropped ≡ clause_of t'.clauses t'.literals i
  clauses_now i lt = ap (λ (x : List Clause). get_or x i dropped) (sym H.so.swept) ∙ H.tied.clauses i (omega (arith, lt, same_n))

  -- the graphs of the two cores
  abbrev Leads : List Clause → List Clause → ℤ → ℤ → Type 0
  Leads x y p q = Reach (graph x) (slot_of p) (slot_of q) → Reach (graph y) (slot_of p) (slot_of q)

  forth : (p q : ℤ) → Leads f (sweep_first count σ f) p q → Leads then.clauses now.clauses p q
  forth p q = subst₂ (λ (x y : List Clause). Leads x y p q) (sym B.so.clauses) (sym H.so.swept)

  back : (p q : ℤ) → Leads (sweep_first count σ f) f p q → Leads now.clauses then.clauses p q
  back p q = subst₂ (λ (x y : List Clause). Leads x y p q) (sym H.so.swept) (sym B.so.clauses)

  -- of a pair that was shortened one literal is left, which was reached from its complement
  pair_fails : (i : ℕ) → i < st.n → length (clause_at t i) ≡ 2 → Shortened t t' i → (p : ℤ) × (clause_at t' i ≡ p ∷ []) × Reached t st.n (neg_ℤ p) p
  pair_fails i lt two short =
      let c = two_literals (clause_at t i) two in
      let e = clauses_then i lt ∙ stands_clause t.clauses t.literals i short.stood ∙ ap (λ (C : List ℤ). standing (map slot_of C)) c.2 in
      let k = clauses_now i lt ∙ stands_clause t'.clauses t'.literals i short.stands in
      let r = slots.pair_fails f (sweep_first count σ f) (sweep_since vars f σ R count) i (slot_of c.0) (slot_of c.1) e (map slot_of (clause_at t' i)) k (omega (arith, short.fewer, two, length-map (clause_at t' i) slot_of)) in
      let l = one_literal (clause_at t' i) r.0 r.1 in
      let p = l.0 in
      let L : Literal st.v p = subst (λ (v : ℕ). Literal v p) (sym same_v) (fit_member (clause_fits (shape_formed H.shape) i (omega (arith, lt, same_n))) (subst (Memᴰ p) (sym l.1) (Memᴰ.head refl))) in
      (p, l.1, from_path B.shape B.tied (subst (λ (x : List Clause). Reach (graph x) (twin r.0) r.0) (sym B.so.clauses) r.2) (neg_ℤ p) p (complement t st B.shape L) L (slot_twin p L.above ∙ ap twin l.2) l.2)

  pub swept_reach : ReachKept t st t' st'
  swept_reach = record {
    kept = λ w p q. carried B.shape H.shape B.tied H.tied same_v p q (forth p q (sweep_reach vars f σ R count (pairs_whole σ count f B.shape H.shape same_n number clauses_then clauses_now w) (slot_of p) (slot_of q)));
    same = λ w p q.
        let both = sweep_reach_same vars f σ R count (all_whole σ count f B.shape H.shape same_n number clauses_then clauses_now w) (slot_of p) (slot_of q) in (
          carried B.shape H.shape B.tied H.tied same_v p q (forth p q both.0),
          carried H.shape B.shape H.tied B.tied (sym same_v) p q (back p q both.1),
        );
    fails = pair_fails;
  }
