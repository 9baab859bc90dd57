-- A Merge that finds a group and does not set the mark leaves fewer variables their own class. Of two literals that reach each other the one with the larger variable has an edge, so it stands in a clause, where it was its own class;
-- now its class is a smaller variable. And no variable becomes its own class that was not, since a class only gets smaller. Assumes nothing.
use Prim.Native.Nat.{ℕ, ◌+◌, ◌*◌, ◌/◌, ◌%◌, ◌≤◌, ◌<◌}
use native.Mathlib.Omega.{arith}
use mathlib.Core.Path.{◌≡◌, refl, sym, ap, subst, ◌∙◌}
use mathlib.Core.Bool.{Bool, true, false, false≢true}
use mathlib.Core.Logic.{⊎_elim}
use mathlib.Core.List.{List}
use lib.IntN.{ℤ, pos, nat_abs}
use Rattle.base.specs.Decide.{same_or, le_or}
use Rattle.literal.specs.Literals.{slot_of, twin}
use Rattle.literal.proofs.Laws.{slot_below, slot_variable}
use Rattle.literal.proofs.Twins.{twin_even, twin_odd, twin_variable}
use Rattle.walk.specs.Forest.{Reach, here}
use Rattle.scc.specs.Groups.{cyclic, least_mutual, Representative}
use Rattle.scc.proofs.Kosaraju.{mirror}
use Rattle.scc.proofs.Forward.{cyclic_found, reach_within}
use Rattle.state.specs.declared.State.{State}
use Rattle.tables.specs.Tables.{Tables, class_of}
use Rattle.tables.specs.Clauses.{slots_from}
use Rattle.visits.proofs.StoreKeeps.{FormedTo}
use Rattle.table_graph.proofs.Listing.{formed_listed, slots_in}
use Rattle.merge.specs.Merge.{edges_of, clashes, representative, regrouped}
use Rattle.merge.proofs.Opening.{none_clash}
use Rattle.merge.proofs.Merged.{edges_skew, edges_least, moved_own, variable_new}
use Rattle.settle.specs.Settle.{Standing, merged, grouped}
use Rattle.settle.specs.Own.{owns}
use Rattle.settle.specs.Steps.{standing_in}
use Rattle.settle.proofs.Owning.{Own, owns_fewer}
use Rattle.settle.proofs.Merging.{merged_clash, merged_visits, merged_variables}

-- two slots of one variable are twins
same_half : (a b : ℕ) → (a ≡ b → ⊥) → a / 2 ≡ b / 2 → b ≡ twin a
same_half a b d e = ⊎_elim (λ (z : a % 2 ≡ 0). omega (arith, e, d, z, twin_even a z)) (λ (z : a % 2 ≡ 0 → ⊥). omega (arith, e, d, z, twin_odd a z)) (same_or (a % 2) 0)

module _ {v n : ℕ} (t : Tables) (F : FormedTo v n n t) (none : clashes (edges_of t n) v ≡ false) where
  abbrev adj : ℕ → List ℕ
  adj = edges_of t n

  abbrev old : List ℤ
  old = t.variables

  abbrev new : List ℤ
  new = regrouped (representative adj v) v old

  abbrev rep : ℕ → ℕ
  rep = least_mutual adj (2 * v)

  -- a variable that is its own class now was it before
  was_own : (u : ℕ) → u < v → Own new u → Own old u
  was_own u lt e =
      let X = F.vars.each u lt in
      let class : ℤ = class_of old (u + 1) in
      let R = edges_least t F (slot_of class) (slot_below class v X.class.above (omega (arith, X.class.within, lt))) in
      let same : nat_abs class ≡ u + 1 = omega (arith, sym (variable_new t F u lt) ∙ ap nat_abs e, slot_variable class X.class.above, X.class.within, R.least (slot_of class) here here) in
      subst (λ (x : ℕ). class_of old x ≡ pos x) same X.own

  -- b reaches a and is reached by it, and has the larger variable
  module _ (a b : ℕ) (la : a < 2 * v) (lb : b < 2 * v) (there : Reach adj a b) (back : Reach adj b a) (larger : a / 2 < b / 2) where
    was_moved : Own old (b / 2)
    was_moved = moved_own t F back (λ e. omega (arith, e, larger))

    -- the positive literal of that variable reaches a literal of the other, and is reached by it
    falls : rep (2 * (b / 2)) / 2 < b / 2
    falls =
        ⊎_elim
        (λ (z : b % 2 ≡ 0).
        let e : b ≡ 2 * (b / 2) = omega arith in
        let R = subst (λ (x : ℕ). Representative adj (2 * v) x (rep x)) e (edges_least t F b lb) in
        omega (arith, larger, R.least a (subst (λ (x : ℕ). Reach adj x a) e back) (subst (Reach adj a) e there)))
        (λ (d : b % 2 ≡ 0 → ⊥).
        let e : twin b ≡ 2 * (b / 2) = twin_odd b d ∙ omega arith in
        let R = subst (λ (x : ℕ). Representative adj (2 * v) x (rep x)) e (edges_least t F (twin b) ((edges_skew t F).below b lb)) in
        omega (arith, larger, twin_variable a, R.least (twin a) (subst (λ (x : ℕ). Reach adj x (twin a)) e (mirror adj twin (2 * v) (edges_skew t F) la there)) (subst (Reach adj (twin a)) e (mirror adj twin (2 * v) (edges_skew t F) lb back))))
        (same_or (b % 2) 0)

    not_own : Own new (b / 2) → ⊥
    not_own o =
        let slot : slot_of (class_of old (b / 2 + 1)) ≡ 2 * (b / 2) = ap slot_of was_moved ∙ omega arith in
        let e : b / 2 + 1 ≡ rep (2 * (b / 2)) / 2 + 1 = sym (ap nat_abs o) ∙ variable_new t F (b / 2) (omega arith) ∙ ap (λ (k : ℕ). rep k / 2 + 1) slot in
        omega (arith, e, falls)

    pair_fewer : owns v new < owns v old
    pair_fewer = owns_fewer old new v was_own (b / 2) (omega arith) was_moved not_own

  -- so a group of two or more leaves fewer
  grouped_fewer : cyclic adj (2 * v) ≡ true → owns v new < owns v old
  grouped_fewer found =
      let cs : List (List ℕ) = slots_from t.clauses t.literals n 0 in
      let (a, b, d, there, back) = cyclic_found cs v (slots_in (formed_listed F)) found in
      let within = ⊎_elim (λ e. absurd (d e)) (λ h. h) (reach_within cs v (slots_in (formed_listed F)) there) in
      ⊎_elim
      (λ (e : a / 2 ≡ b / 2).
      let s = same_half a b d e in
      absurd (none_clash adj v (edges_skew t F) none a within.0 (subst (Reach adj a) s there) (subst (λ (x : ℕ). Reach adj x a) s back)))
      (λ (o : a / 2 ≡ b / 2 → ⊥).
      ⊎_elim
      (λ (h : a / 2 ≤ b / 2). pair_fewer a b within.0 within.1 there back (omega (arith, h, o)))
      (λ (h : b / 2 < a / 2). pair_fewer b a within.1 within.0 back there h)
      (le_or (a / 2) (b / 2)))
      (same_or (a / 2) (b / 2))

-- THE LAW
pub merged_fewer : (t : Tables) (st : State) → FormedTo st.v st.n st.n t → grouped (standing_in t st) ≡ true → (merged (standing_in t st)).state.mark ≡ false
    → owns st.v (merged (standing_in t st)).tables.variables < owns st.v t.variables
merged_fewer t st F found unmarked = by (clashes (edges_of t st.n) st.v) refl
  where
    by : (b : Bool) → clashes (edges_of t st.n) st.v ≡ b → owns st.v (merged (standing_in t st)).tables.variables < owns st.v t.variables
    by true e = absurd (false≢true (sym unmarked ∙ ap (λ (x : Standing). x.state.mark) (merged_clash t st e)))
    by false e =
        subst (λ (w : List ℤ). owns st.v w < owns st.v t.variables) (sym (ap (λ (x : Standing). x.tables.variables) (merged_visits t st e) ∙ merged_variables t st)) (grouped_fewer t F e found)
