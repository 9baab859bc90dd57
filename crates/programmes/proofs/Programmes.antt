-- A programme made of codes has these codes; where they keep the rules it passes; the constant one does. And the rules as one walks the codes: what the ones before leave to the next. Assumes nothing.
use Prim.Native.Nat.{ℕ, zero, suc, ◌+◌, ◌-◌, ◌≤◌, ◌<◌}
use native.Mathlib.Decide.{ℕ_discrete, dec_le}
use native.Mathlib.Omega.{arith}
use mathlib.Core.Path.{◌≡◌, refl, sym, subst}
use mathlib.Core.Bool.{Bool, true, false}
use mathlib.Core.List.{List, [], ◌∷◌}
use lib.ListN.{length, drop, replicate, drop_of_length-le}
use lib.Seq.{take_at, drop-cons}
use lib.Dec.{eqb}
use Rattle.base.specs.Decide.{Decides, does_exact, says_no, and?, or?, if?, not?, so?, every?}
use Rattle.state.specs.Programmes.{codes_of, programme_of, constant_programme}
use Rattle.programmes.specs.Rules.{code_at, Settled, Stamped, Rules, Passing}
use Rattle.programmes.specs.Judging.{fits_by, stamped_by, settled?, stamped?, fits?, rules?}
use Rattle.programmes.proofs.Judging.{settled_by, stamped_by_lem, fits_by_lem}

-- ---- programmes made of codes

pub made_codes : (codes : List ℕ) → codes_of (programme_of codes) ≡ codes
unfolding programme_of
made_codes codes = take_at codes (replicate (32 - length codes) 0) (length codes) refl

pub made_passes : (codes : List ℕ) → Rules codes → Passing (programme_of codes)
unfolding programme_of
made_passes codes R = record { within = R.few; rules = subst Rules (sym (made_codes codes)) R }

-- the constant programme of document 01 passes
pub constant_passes : Passing constant_programme
unfolding constant_programme rules? fits? stamped? settled? and? or? if? not? so? every? ℕ_discrete dec_le
constant_passes = made_passes (1 ∷ 2 ∷ 3 ∷ 4 ∷ []) ((does_exact (rules? (1 ∷ 2 ∷ 3 ∷ 4 ∷ []))).holds refl)

-- ---- one code after the other

-- each code may stand behind those before it, of which the last is a settle or not, and of which one is a stamp with no settle or sweep behind it, or none is
abbrev pub Follow : Bool → Bool → List ℕ → Type 0
Follow settled stamped [] = Unit {0}
Follow settled stamped (code ∷ codes) = (fits_by code settled stamped ≡ true) × Follow (eqb code 1) (stamped_by code stamped) codes

follow_from : (codes : List ℕ) → Rules codes → (m i : ℕ) → m + i ≡ length codes → (settled stamped : Bool) → Decides settled (Settled codes i) → Decides stamped (Stamped codes i) → Follow settled stamped (drop i codes)
follow_from codes R zero i e settled stamped A B = subst (Follow settled stamped) (sym (drop_of_length-le codes (let q : length codes ≤ i = omega (arith, e) in q))) tt
follow_from codes R (suc m) i e settled stamped A B =
    let lt : i < length codes = omega (arith, e) in
    subst (Follow settled stamped) (sym (drop-cons codes i 0 lt))
    (fits (fits_by (code_at codes i) settled stamped) refl, follow_from codes R m (suc i) (omega (arith, e)) (eqb (code_at codes i) 1) (stamped_by (code_at codes i) stamped) (settled_by codes i) (stamped_by_lem codes i stamped B))
  where
    fits : (b : Bool) → fits_by (code_at codes i) settled stamped ≡ b → fits_by (code_at codes i) settled stamped ≡ true
    fits true q = q
    fits false q = absurd ((fits_by_lem codes i settled stamped A B).fails q (R.each i (omega (arith, e))))

-- THE LAW: the rules, code by code from the first
pub rules_follow : (codes : List ℕ) → Rules codes → Follow false false codes
rules_follow codes R = follow_from codes R (length codes) 0 (omega arith) false false (says_no (λ S. omega (arith, S.directly))) (says_no (λ S. omega (arith, S.before)))
