-- What the walk over the codes asks of one code is the rule; the walk finds the first code that breaks it; and what `judge` says is what the rules say. Assumes nothing.
use Prim.Native.Nat.{ℕ, zero, suc, ◌+◌, ◌-◌, ◌≤◌, ◌<◌}
use native.Mathlib.Numerals.{add-one}
use native.Mathlib.Omega.{arith}
use mathlib.Core.Path.{◌≡◌, refl, sym, ap, ap₂, subst, ◌∙◌}
use mathlib.Core.Bool.{Bool, true, false, not, ◌&&◌, false≢true}
use mathlib.Core.List.{List}
use mathlib.Core.Logic.{◌↔◌, ◌⊎◌, inl, inr}
use lib.ListN.{length}
use lib.Dec.{eqb, leb}
use borrow.Author.Tests.{eqb-true, eq-eqb, le-leb, lt-leb, lt-ltb, le-ltb}
use Rattle.std.specs.Prelude.{Option, Some, None, Result, Ok, Err, is_ok}
use Rattle.base.specs.Decide.{Decides, does, does_exact, says_yes, says_no, decides_map, le_or}
use Rattle.base.specs.Lists.{first}
use Rattle.base.proofs.Searches.{first_hit, first_next, first_passed, first_passes}
use Rattle.programmes.specs.Rules.{code_at, Settled, Stamped, Fits, Rules}
use Rattle.programmes.specs.Judging.{fits_by, stamped_by, stamped_here, stamped_on, stamped_back, fits?, offends, offending_place, first_offending, judge}

-- ---- one code

module _ (codes : List ℕ) (i : ℕ) where
  pub settled_by : Decides (eqb (code_at codes i) 1) (Settled codes (suc i))
  settled_by = record {
    holds = λ e. record { place = i; directly = refl; settle = eqb-true (code_at codes i) 1 e };
    fails = λ e S. false≢true (sym e ∙ eq-eqb (code_at codes i) 1 (ap (code_at codes) (let q : i ≡ S.place = omega (arith, S.directly) in q) ∙ S.settle));
  }

  pub stamped_by_lem : (stamped : Bool) → Decides stamped (Stamped codes i) → Decides (stamped_by (code_at codes i) stamped) (Stamped codes (suc i))
  stamped_by_lem stamped D = go (code_at codes i) refl
    where
      on : (c : ℕ) → code_at codes i ≡ c → (c ≡ 1 → ⊥) → (c ≡ 2 → ⊥) → (c ≡ 4 → ⊥) → Decides stamped (Stamped codes (suc i))
      on c e settle stamp sweep = decides_map (stamped_on codes i (λ h. settle (sym e ∙ h)) (λ h. sweep (sym e ∙ h))) (λ S. (stamped_back codes i S (λ h. stamp (sym e ∙ h))).2) D

      go : (c : ℕ) → code_at codes i ≡ c → Decides (stamped_by c stamped) (Stamped codes (suc i))
      go zero e = on 0 e (λ h. omega (arith, h)) (λ h. omega (arith, h)) (λ h. omega (arith, h))
      go (suc zero) e = says_no (λ S. (stamped_back codes i S (λ h. omega (arith, e, h))).0 e)
      go (suc (suc zero)) e = says_yes (stamped_here codes i e)
      go (suc (suc (suc zero))) e = on 3 e (λ h. omega (arith, h)) (λ h. omega (arith, h)) (λ h. omega (arith, h))
      go (suc (suc (suc (suc zero)))) e = says_no (λ S. (stamped_back codes i S (λ h. omega (arith, e, h))).1 e)
      go (suc (suc (suc (suc (suc k))))) e = on (suc (suc (suc (suc (suc k))))) e (λ h. omega (arith, h)) (λ h. omega (arith, h)) (λ h. omega (arith, h))

  pub fits_by_lem : (settled stamped : Bool) → Decides settled (Settled codes i) → Decides stamped (Stamped codes i) → Decides (fits_by (code_at codes i) settled stamped) (Fits codes i)
  fits_by_lem settled stamped A B = go (code_at codes i) refl
    where
      go : (c : ℕ) → code_at codes i ≡ c → Decides (fits_by c settled stamped) (Fits codes i)
      go zero e = says_no (λ F. omega (arith, F.least, e))
      go (suc zero) e = says_yes (record { least = omega (arith, e); most = omega (arith, e); stamp = λ h. absurd (omega (arith, e, h)); failed = λ h. absurd (omega (arith, e, h)); sweep = λ h. absurd (omega (arith, e, h)) })
      go (suc (suc zero)) e = decides_map (λ S. record { least = omega (arith, e); most = omega (arith, e); stamp = λ h. S; failed = λ h. absurd (omega (arith, e, h)); sweep = λ h. absurd (omega (arith, e, h)) }) (λ F. F.stamp e) A
      go (suc (suc (suc zero))) e = decides_map (λ S. record { least = omega (arith, e); most = omega (arith, e); stamp = λ h. absurd (omega (arith, e, h)); failed = λ h. S; sweep = λ h. absurd (omega (arith, e, h)) }) (λ F. F.failed e) B
      go (suc (suc (suc (suc zero)))) e = decides_map (λ S. record { least = omega (arith, e); most = omega (arith, e); stamp = λ h. absurd (omega (arith, e, h)); failed = λ h. absurd (omega (arith, e, h)); sweep = λ h. S }) (λ F. F.sweep e) B
      go (suc (suc (suc (suc (suc k))))) e = says_no (λ F. omega (arith, F.most, e))

-- ---- the walk

-- the walk has come to index i: what is left from here finds what the whole finds
pub record Walking (codes : List ℕ) (settled stamped : Bool) (i : ℕ) : Type 0 where
  pub within : i ≤ length codes
  pub left : first (offends codes) (length codes - i) i ≡ offending_place codes
  pub settle : Decides settled (Settled codes i)
  pub stamp : Decides stamped (Stamped codes i)

pub walking_none : (codes : List ℕ) → Walking codes false false 0
unfolding offending_place
walking_none codes = record {
  within = omega arith;
  left = ap (λ (m : ℕ). first (offends codes) m 0) (let q : length codes - 0 ≡ length codes = omega arith in q);
  settle = says_no (λ S. omega (arith, S.directly));
  stamp = says_no (λ S. omega (arith, S.before));
}

-- where there is a place it is the first code that offends
module _ (codes : List ℕ) where
  abbrev by_found : Bool → Option ℕ
  by_found found = elim found [ true ↦ Some (offending_place codes) | false ↦ None ]

  some_offending : offending_place codes < length codes → Some (offending_place codes) ≡ first_offending codes
  unfolding first_offending
  some_offending lt = ap by_found (sym (lt-ltb (offending_place codes) (length codes) lt))

  none_offending : length codes ≤ offending_place codes → None ≡ first_offending codes
  unfolding first_offending
  none_offending le = ap by_found (sym (le-ltb (offending_place codes) (length codes) le))

module _ {codes : List ℕ} {settled stamped : Bool} {i : ℕ} (W : Walking codes settled stamped i) where
  pub walking_done : length codes ≤ i → None ≡ first_offending codes
  unfolding first
  walking_done le =
      let e : i ≡ offending_place codes = ap (λ (m : ℕ). first (offends codes) m i) (let q : 0 ≡ length codes - i = omega arith in q) ∙ W.left in
      none_offending codes (omega (arith, e, le))

  module _ (lt : i < length codes) where
    tested : (b : Bool) → fits_by (code_at codes i) settled stamped ≡ b → does (fits? codes i) ≡ b
    tested true e = by (does (fits? codes i)) refl
      where
        by : (d : Bool) → does (fits? codes i) ≡ d → does (fits? codes i) ≡ true
        by true q = q
        by false q = absurd ((does_exact (fits? codes i)).fails q ((fits_by_lem codes i settled stamped W.settle W.stamp).holds e))
    tested false e = by (does (fits? codes i)) refl
      where
        by : (d : Bool) → does (fits? codes i) ≡ d → does (fits? codes i) ≡ false
        by true q = absurd ((fits_by_lem codes i settled stamped W.settle W.stamp).fails e ((does_exact (fits? codes i)).holds q))
        by false q = q

    one_left : first (offends codes) (suc (length codes - suc i)) i ≡ offending_place codes
    one_left = ap (λ (m : ℕ). first (offends codes) m i) (let q : suc (length codes - suc i) ≡ length codes - i = omega arith in q) ∙ W.left

    pub walking_found : fits_by (code_at codes i) settled stamped ≡ false → Some i ≡ first_offending codes
    walking_found e =
        let at : i ≡ offending_place codes = sym (first_hit (offends codes) (suc (length codes - suc i)) i (omega arith) (ap not (tested false e))) ∙ one_left in
        ap Some at ∙ some_offending codes (omega (arith, at, lt))

    pub walking_more : fits_by (code_at codes i) settled stamped ≡ true → (after : Bool) → after ≡ stamped_by (code_at codes i) stamped → Walking codes (eqb (code_at codes i) 1) after (i + 1)
    walking_more e after is = subst (Walking codes (eqb (code_at codes i) 1) after) (sym (add-one i)) (record {
      within = omega arith;
      left = sym (first_next (offends codes) (length codes - suc i) i (ap not (tested true e))) ∙ one_left;
      settle = settled_by codes i;
      stamp = subst (λ (b : Bool). Decides b (Stamped codes (suc i))) (sym is) (stamped_by_lem codes i stamped W.stamp);
    })

-- ---- the judgement

pub err_is_no_ok : {i : ℕ} → ◌≡◌ {A = Result (Unit {0}) ℕ} (Err i) (Ok tt) → ⊥
err_is_no_ok e = cc

err_same : {i j : ℕ} → ◌≡◌ {A = Result (Unit {0}) ℕ} (Err i) (Err j) → i ≡ j
err_same e = cc

module _ (codes : List ℕ) where
  abbrev by_offending : Option ℕ → Result (Unit {0}) ℕ
  by_offending found = elim found [ Some i ↦ Err i | None ↦ Ok tt ]

  abbrev by_count : Bool → Result (Unit {0}) ℕ
  by_count fit = elim fit [ true ↦ by_offending (first_offending codes) | false ↦ Err 0 ]

  pub judge_none : length codes < 1 → Err 0 ≡ judge codes
  unfolding judge
  judge_none lt = ap (λ (b : Bool). by_count (b && leb (length codes) 32)) (sym (lt-leb 1 (length codes) lt))

  pub judge_many : 32 < length codes → Err 0 ≡ judge codes
  unfolding judge
  judge_many lt = ap₂ (λ (a b : Bool). by_count (a && b)) (sym (le-leb 1 (length codes) (omega arith))) (sym (lt-leb (length codes) 32 lt))

  module _ (some : 1 ≤ length codes) (few : length codes ≤ 32) where
    judge_by : judge codes ≡ by_offending (first_offending codes)
    unfolding judge
    judge_by = ap₂ (λ (a b : Bool). by_count (a && b)) (le-leb 1 (length codes) some) (le-leb (length codes) 32 few)

    pub judge_found : (at : ℕ) → Some at ≡ first_offending codes → Err at ≡ judge codes
    judge_found at e = ap by_offending e ∙ sym judge_by

    pub judge_passes : None ≡ first_offending codes → Ok tt ≡ judge codes
    judge_passes e = ap by_offending e ∙ sym judge_by

  -- ---- what it says

  unnot : (b : Bool) → not b ≡ false → b ≡ true
  unnot true e = refl
  unnot false e = absurd (false≢true (sym e))

  -- THE LAW of the index: every code before it may stand where it does, and the one at it may not
  pub first_offence : offending_place codes < length codes → ((j : ℕ) → j < offending_place codes → Fits codes j) × (Fits codes (offending_place codes) → ⊥)
  unfolding offending_place
  first_offence lt = (
    λ j l. (does_exact (fits? codes j)).holds (unnot (does (fits? codes j)) (first_passed (offends codes) (length codes) 0 j (omega arith) l)),
    λ F. breaks (does (fits? codes (offending_place codes))) refl (first_passes (offends codes) (length codes) 0 (omega (arith, lt))) F,
  )
    where
      breaks : (b : Bool) → does (fits? codes (offending_place codes)) ≡ b → not b ≡ true → Fits codes (offending_place codes) → ⊥
      breaks true e h F = false≢true h
      breaks false e h F = (does_exact (fits? codes (offending_place codes))).fails e F

  -- THE LAW: a list passes exactly if it keeps the rules
  passes_rules : judge codes ≡ Ok tt → Rules codes
  unfolding offending_place
  passes_rules e = by_some (le_or 1 (length codes))
    where
      clash : {i : ℕ} → Err i ≡ judge codes → ⊥
      clash o = err_is_no_ok (o ∙ e)

      by_first : (some : 1 ≤ length codes) (few : length codes ≤ 32) → (length codes ≤ offending_place codes) ⊎ (offending_place codes < length codes) → Rules codes
      by_first some few (inl le) = record { some = some; few = few; each = λ i lt. (does_exact (fits? codes i)).holds (unnot (does (fits? codes i)) (passed i (omega (arith, lt, le)))) }
        where
          passed : (i : ℕ) → i < offending_place codes → offends codes i ≡ false
          passed i lt = first_passed (offends codes) (length codes) 0 i (omega arith) lt
      by_first some few (inr lt) = absurd (clash (judge_found some few (offending_place codes) (some_offending codes lt)))

      by_few : 1 ≤ length codes → (length codes ≤ 32) ⊎ (32 < length codes) → Rules codes
      by_few some (inl few) = by_first some few (le_or (length codes) (offending_place codes))
      by_few some (inr lt) = absurd (clash (judge_many lt))

      by_some : (1 ≤ length codes) ⊎ (length codes < 1) → Rules codes
      by_some (inl some) = by_few some (le_or (length codes) 32)
      by_some (inr lt) = absurd (clash (judge_none lt))

  rules_pass : Rules codes → judge codes ≡ Ok tt
  rules_pass R = by (le_or (length codes) (offending_place codes))
    where
      by : (length codes ≤ offending_place codes) ⊎ (offending_place codes < length codes) → judge codes ≡ Ok tt
      by (inl le) = sym (judge_passes R.some R.few (none_offending codes le))
      by (inr lt) = absurd ((first_offence lt).1 (R.each (offending_place codes) lt))

  pub judge_exact : (judge codes ≡ Ok tt) ↔ Rules codes
  judge_exact = (passes_rules, rules_pass)

  pub judge_decides : Decides (is_ok (judge codes)) (Rules codes)
  judge_decides = by (judge codes) refl
    where
      by : (r : Result (Unit {0}) ℕ) → judge codes ≡ r → Decides (is_ok r) (Rules codes)
      by (Ok u) e = says_yes (passes_rules e)
      by (Err i) e = says_no (λ R. err_is_no_ok (sym e ∙ rules_pass R))

  -- the place of refusal 12 where the length is right
  pub judge_index : (i : ℕ) → judge codes ≡ Err i → 1 ≤ length codes → length codes ≤ 32 → (i < length codes) × ((j : ℕ) → j < i → Fits codes j) × (Fits codes i → ⊥)
  judge_index i e some few = by (le_or (length codes) (offending_place codes))
    where
      by : (length codes ≤ offending_place codes) ⊎ (offending_place codes < length codes) → (i < length codes) × ((j : ℕ) → j < i → Fits codes j) × (Fits codes i → ⊥)
      by (inl le) = absurd (err_is_no_ok (sym e ∙ sym (judge_passes some few (none_offending codes le))))
      by (inr lt) =
          let same : offending_place codes ≡ i = err_same (judge_found some few (offending_place codes) (some_offending codes lt) ∙ e) in
          let F = first_offence lt in
          (subst (λ (x : ℕ). x < length codes) same lt, subst (λ (x : ℕ). (j : ℕ) → j < x → Fits codes j) same F.0, subst (λ (x : ℕ). Fits codes x → ⊥) same F.1)
