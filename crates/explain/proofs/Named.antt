-- The ends of the chains that show what Sweep's rule does, for a clause under fresh stamps:
--     drop_between, literal_between    the one end holds the other
--     shown_climbable                  so each chain can be climbed
--     shown_few                        and there are at most 1,024
-- Assumes nothing.
use Prim.Native.Nat.{ℕ, ◌≤◌, ◌<◌}
use native.Mathlib.Omega.{arith}
use mathlib.Core.Path.{◌≡◌, refl, sym, ap, subst}
use mathlib.Core.Logic.{⊎_elim}
use mathlib.Core.List.Memᴰ
use mathlib.Core.List.{List, [], ◌∷◌, map, Memᴰ}
use lib.ListN.{length, length-map}
use lib.IntN.{ℤ, neg_ℤ}
use Rattle.std.specs.Prelude.{Option, unwrap_or}
use Rattle.literal.specs.Literals.{Literal}
use Rattle.walk.specs.Walk.{Stamps}
use Rattle.stamp_columns.specs.Columns.{columns}
use Rattle.tables.specs.Fates.{Fate, left, dropped}
use Rattle.sweep_visits.specs.Clause.{sweep_clause}
use Rattle.sweep_visits.proofs.Fates.{sweep_cases}
use Rattle.chains.specs.declared.Ends.{Ends}
use Rattle.chains.specs.Chains.{ends}
use Rattle.chains.specs.Climbing.{Between, Climbable}
use Rattle.explain.specs.Reasons.{no_ends, drop_ends, literal_ends, left_out, taken_out, reasons_by, reasons_of}
use Rattle.explain.specs.Asking.{Clause}
use Rattle.explain.proofs.Swept.{swept_dropped, swept_left}
use Rattle.explain.proofs.Firsts.{first_in}
use Rattle.explain.proofs.Naming.{literal_neg, On, in_range_lem, Long, long_named, rest_in, taken_few, literal_named, Twos, pair_named}

pub taken_list : (σ : Stamps) (C ls : List ℤ) → (taken_out σ C ls).shown ≡ map (literal_ends σ C) ls
taken_list σ C [] = refl
taken_list σ C (l ∷ ls) = refl

-- ---- the ends of a dropped clause

-- how the ends of a dropped clause come about
pub data DropNamed {times : List ℕ} {links C : List ℤ} (K : Clause times links C) : Type 0 where
  two : {a b : ℤ} → C ≡ a ∷ b ∷ [] → Twos times links a b (drop_ends (columns times links) C) → DropNamed K
  more : 2 < length C → (L : Long K) → drop_ends (columns times links) C ≡ ends (neg_ℤ L.a) L.b → DropNamed K

pub drop_named : {times : List ℕ} {links C : List ℤ} (K : Clause times links C) → sweep_clause (columns times links) C ≡ dropped → DropNamed K
unfolding drop_ends
drop_named {times} {links} {C = []} K e = absurd (let s = swept_dropped (columns times links) [] e in omega (arith, s.0))
drop_named {times} {links} {C = a ∷ []} K e = absurd (let s = swept_dropped (columns times links) (a ∷ []) e in omega (arith, s.0))
drop_named {times} {links} {C = a ∷ b ∷ []} K e = two refl (pair_named K (swept_dropped (columns times links) (a ∷ b ∷ []) e).1)
drop_named {times} {links} {C = a ∷ b ∷ c ∷ ls} K e = let L = long_named K (omega arith) (swept_dropped (columns times links) (a ∷ b ∷ c ∷ ls) e).1 in more (omega arith) L (ap (λ (o : Option Ends). unwrap_or o no_ends) L.is)

module _ {times : List ℕ} {links C : List ℤ} (K : Clause times links C) where
  abbrev σ : Stamps
  σ = columns times links

  between : {p q : ℤ} {e : Ends} → Literal K.vars p → Literal K.vars q → On times p q → e ≡ ends p q → Between K.vars times e
  between P Q h e = subst (Between K.vars times) (sym e) (record { top_literal = P; bottom_literal = Q; held = h })

  pub drop_between : sweep_clause σ C ≡ dropped → Between K.vars times (drop_ends σ C)
  drop_between e = by (drop_named K e)
    where
      by : DropNamed K → Between K.vars times (drop_ends σ C)
      by (two {a} {b} is T) =
          let A : Literal K.vars a = in_range_lem K a (subst (Memᴰ a) (sym is) (Memᴰ.head refl)) in
          let B : Literal K.vars b = in_range_lem K b (subst (Memᴰ b) (sym is) (Memᴰ.tail (Memᴰ.head refl))) in
          ⊎_elim (λ r. between (literal_neg A) B r.0.0 r.1) (λ r. between (literal_neg B) A r.1.0 r.2) T
      by (more three L is) = between (literal_neg (in_range_lem K L.a (first_in L.a_first))) (in_range_lem K L.b (first_in L.b_first)) L.b_first.has is

  pub literal_between : (D : List ℤ) → sweep_clause σ C ≡ left D → (l : ℤ) → Memᴰ l (left_out C D) → Between K.vars times (literal_ends σ C l)
  literal_between D e l m =
      let n = literal_named K l (subst (λ (E : List ℤ). Memᴰ l (left_out C E)) (swept_left σ C D e) m) in
      let L = in_range_lem K l n.0 in
      ⊎_elim
      (λ r. between L (in_range_lem K r.b (first_in r.first)) r.first.has.1 r.is)
      (λ r. between (literal_neg (in_range_lem K r.m (rest_in K r.m (first_in r.first)))) (literal_neg L) r.first.has.1 r.is)
      n.1

pub shown_climbable : {times : List ℕ} {links C : List ℤ} (K : Clause times links C) (e : Ends) → Memᴰ e (reasons_of (columns times links) C).shown → Climbable links e
shown_climbable {times} {links} {C} K e m =
    sweep_cases (columns times links) C (λ (x : Fate). sweep_clause (columns times links) C ≡ x → Memᴰ e (reasons_by x (columns times links) C).shown → Climbable links e)
    (λ short s k. absurd (Memᴰ.not-nil k))
    (λ D part s k.
    let w = Memᴰ.of_map (literal_ends (columns times links) C) (left_out C D) (subst (Memᴰ e) (taken_list (columns times links) C (left_out C D)) k) in
    climbable (subst (Between K.vars times) w.2 (literal_between K D s w.0 w.1)))
    (λ s k. ⊎_elim (λ (q : e ≡ drop_ends (columns times links) C). climbable (subst (Between K.vars times) (sym q) (drop_between K s))) (λ r. absurd (Memᴰ.not-nil r)) (Memᴰ.cases_cons k))
    refl m
  where
    climbable : Between K.vars times e → Climbable links e
    climbable b = record { times = times; vars = K.vars; stamped = K.stamped; between = b }

pub shown_few : {times : List ℕ} {links C : List ℤ} → Clause times links C → length (reasons_of (columns times links) C).shown ≤ 1024
shown_few {times} {links} {C} K =
    sweep_cases (columns times links) C (λ (x : Fate). sweep_clause (columns times links) C ≡ x → length (reasons_by x (columns times links) C).shown ≤ 1024)
    (λ short s. omega arith)
    (λ D part s.
    omega (arith, ap length (taken_list (columns times links) C (left_out C D)), length-map (left_out C D) (literal_ends (columns times links) C), ap (λ (E : List ℤ). length (left_out C E)) (swept_left (columns times links) C D s), taken_few K, K.few))
    (λ s. omega arith)
    refl
