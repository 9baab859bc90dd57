-- From a list of representatives to the definitions of Merge: the clash, and the new classes.
-- Assumes nothing.
use Prim.Native.Nat.{ℕ, ◌+◌, ◌*◌, ◌/◌, ◌%◌, ◌<◌}
use native.Mathlib.Omega.{arith}
use mathlib.Core.Path.{◌≡◌, refl, sym, ap, subst, ◌∙◌}
use mathlib.Core.Bool.{Bool, true, false, ◌&&◌, false≢true}
use mathlib.Core.Logic.{⊎_elim}
use mathlib.Core.List.{List}
use lib.ListN.{length, get_or}
use lib.IntN.{ℤ, pos}
use Rattle.base.proofs.Searches.{any_below_out, any_below_in}
use Rattle.base.specs.Decide.{same_or}
use Rattle.base.proofs.Booleans.{and_left, and_right, both_ways}
use Rattle.literal.specs.Literals.{Literal, slot_of, lit_at, twin}
use Rattle.literal.proofs.Laws.{slot_below}
use Rattle.literal.proofs.Twins.{twin_even, twin_odd}
use Rattle.walk.specs.Forest.{Reach}
use Rattle.implications.specs.Skew.{Skew}
use Rattle.implications.specs.Clauses.{implications}
use Rattle.scc.specs.Groups.{clash, reaches, connected, least_mutual}
use Rattle.scc.proofs.Least.{least_mutual_lem, reaches_means}
use Rattle.scc.proofs.Clash.{clash_means, no_clash}
use Rattle.tables.specs.Tables.{class_of}
use Rattle.tables.specs.Clauses.{slots_from}
use Rattle.visits.specs.Formed.{Formed}
use Rattle.table_graph.proofs.Listing.{formed_listed}
use Rattle.table_graph.proofs.Chain.{listed_skew}
use Rattle.merge.specs.Merge.{clashes, representative, regrouped}
use Rattle.merge.specs.Opening.{through, Regroups}
use Rattle.merge.proofs.Regrouped.{class_at_lem, regrouped_as}

-- ---- v and −v in one component

module _ (adj : ℕ → List ℕ) (v : ℕ) (K : Skew adj twin (2 * v)) where
  connected_is : (a b : ℕ) → a < 2 * v → b < 2 * v → (connected adj (2 * v) a b ≡ true → (Reach adj a b) × (Reach adj b a)) × (Reach adj a b → Reach adj b a → connected adj (2 * v) a b ≡ true)
  unfolding connected
  connected_is a b la lb =
      let means = reaches_means adj (2 * v) K.inside in (
        λ e. (
          (means a b la).0 (and_left (reaches adj (2 * v) a b) (reaches adj (2 * v) b a) e),
          (means b a lb).0 (and_right (reaches adj (2 * v) a b) (reaches adj (2 * v) b a) e),
        ),
        λ there back. ap (λ (x : Bool). x && reaches adj (2 * v) b a) ((means a b la).1 there) ∙ (means b a lb).1 back,
      )

  -- what the clash means: a slot and its twin reach each other
  pub clashes_some : clashes adj v ≡ true → (s : ℕ) × (s < 2 * v) × (Reach adj s (twin s)) × (Reach adj (twin s) s)
  unfolding clashes
  clashes_some e =
      let (w, lt, h) = any_below_out v (λ w. connected adj (2 * v) (2 * w) (2 * w + 1)) e in
      let both = (connected_is (2 * w) (2 * w + 1) (omega arith) (omega arith)).0 h in
      let t : 2 * w + 1 ≡ twin (2 * w) = sym (twin_even (2 * w) (omega arith)) in
      (2 * w, omega arith, subst (Reach adj (2 * w)) t both.0, subst (λ (x : ℕ). Reach adj x (2 * w)) t both.1)

  pub some_clashes : (s : ℕ) → s < 2 * v → Reach adj s (twin s) → Reach adj (twin s) s → clashes adj v ≡ true
  unfolding clashes
  some_clashes s lt there back =
      any_below_in v (λ w. connected adj (2 * v) (2 * w) (2 * w + 1)) (s / 2) (omega arith)
      (⊎_elim
      (λ (e : s % 2 ≡ 0).
      let a : s ≡ 2 * (s / 2) = omega arith in
      let b : twin s ≡ 2 * (s / 2) + 1 = twin_even s e ∙ omega arith in
      (connected_is (2 * (s / 2)) (2 * (s / 2) + 1) (omega arith) (omega arith)).1
      (subst (λ (x : ℕ). Reach adj x (2 * (s / 2) + 1)) a (subst (Reach adj s) b there))
      (subst (Reach adj (2 * (s / 2) + 1)) a (subst (λ (x : ℕ). Reach adj x s) b back)))
      (λ (d : s % 2 ≡ 0 → ⊥).
      let a : s ≡ 2 * (s / 2) + 1 = omega arith in
      let b : twin s ≡ 2 * (s / 2) = twin_odd s d ∙ omega arith in
      (connected_is (2 * (s / 2)) (2 * (s / 2) + 1) (omega arith) (omega arith)).1
      (subst (Reach adj (2 * (s / 2))) a (subst (λ (x : ℕ). Reach adj x s) b back))
      (subst (λ (x : ℕ). Reach adj x (2 * (s / 2))) a (subst (Reach adj s) b there)))
      (same_or (s % 2) 0))

  pub none_clash : clashes adj v ≡ false → (s : ℕ) → s < 2 * v → Reach adj s (twin s) → Reach adj (twin s) s → ⊥
  none_clash e s lt there back = false≢true (sym e ∙ some_clashes s lt there back)

-- ---- a list of representatives

module _ {v n s : ℕ} {mark : Bool} {c : List ℕ} {l w : List ℤ} (F : Formed v n s mark c l w) (rep : List ℕ) (len : length rep ≡ 2 * v)
    (is : (q : ℕ) → q < 2 * v → get_or rep q 0 ≡ least_mutual (implications (slots_from c l n 0)) (2 * v) q) where
  abbrev adj : ℕ → List ℕ
  adj = implications (slots_from c l n 0)

  skew : Skew adj twin (2 * v)
  skew = listed_skew (formed_listed F)

  pub clash_is : clash rep ≡ clashes adj v
  clash_is =
      both_ways (clash rep) (clashes adj v)
      (λ e. let (q, lt, there, back) = clash_means adj (2 * v) skew rep len is e in some_clashes adj v skew q lt there back)
      (λ e. let (q, lt, there, back) = clashes_some adj v skew e in by_test (clash rep) refl q lt there back)
    where
      by_test : (b : Bool) → clash rep ≡ b → (q : ℕ) → q < 2 * v → Reach adj q (twin q) → Reach adj (twin q) q → clash rep ≡ true
      by_test true e q lt there back = e
      by_test false e q lt there back = absurd (no_clash adj (2 * v) skew rep len is v refl e q lt there back)

  -- the class of a variable is a literal of the variables
  class_ranged : (u : ℕ) → u < v → Literal v (class_of w (u + 1))
  class_ranged u lt = record { above = (F.vars.each u lt).class.above; within = omega (arith, (F.vars.each u lt).class.within, lt) }

  pub regroups : Regroups v rep w
  regroups = record {
    few = F.vars.few;
    slots = len;
    below = λ q lt. omega (arith, is q lt, (least_mutual_lem adj (2 * v) skew.inside q lt).below);
    room = omega (arith, F.vars.few, F.vars.room);
    classes = class_ranged;
  }

  pub classes_are : regrouped (through rep) v w ≡ regrouped (representative adj v) v w
  unfolding representative
  classes_are =
      regrouped_as (through rep) (representative adj v) v w
      (λ u lt.
      let z : ℤ = get_or w (2 * u) (pos 0) in
      let R : Literal v z = subst (Literal v) (class_at_lem w u) (class_ranged u lt) in
      ap lit_at (is (slot_of z) (slot_below z v R.above R.within)))
