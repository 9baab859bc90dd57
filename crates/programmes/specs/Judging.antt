-- The rules decided, and the first code that breaks them. Document 02, CR 5: "Any other is refused with 12 and the index of the first offending code (0 for a wrong length)."
-- `fits_by` and `stamped_by` are what the walk over the codes asks of one code; laws `fits_by_lem` and `stamped_by_lem` say that this is the rule.
-- Assumes nothing: these are definitions, with the decisions that they need.
use Rattle.std.specs.Prelude.{ℕ, zero, suc, ◌<◌, ◌≡◌, refl, Bool, true, false, not, ◌&&◌, List, ◌⊎◌, length, leb, ltb, Option, Some, None, Result, Ok, Err}
use Rattle.std.proofs.Common.{arith, sym, ap, ◌∙◌, inl, inr, ⊎_elim}
use Rattle.std.proofs.Math.Decide.{ℕ_discrete, dec_le}
use Rattle.base.specs.Decide.{does, and?, or?, if?, not?, so?, every?, same_or}
use Rattle.base.specs.Lists.{first}
use Rattle.state.specs.Programmes.{codes_of}
use Rattle.state.specs.declared.Programme.{Programme}
use Rattle.programmes.specs.Rules.{code_at, Settled, Stamped, Fits, Rules, Passing}

-- ---- one code

-- whether a code may stand behind others: by whether the last of them is a settle, and whether one of them is a stamp with no settle or sweep behind it
abbrev pub fits_by : ℕ → Bool → Bool → Bool
fits_by zero settled stamped = false
fits_by (suc zero) settled stamped = true
fits_by (suc (suc zero)) settled stamped = settled
fits_by (suc (suc (suc zero))) settled stamped = stamped
fits_by (suc (suc (suc (suc zero)))) settled stamped = stamped
fits_by (suc (suc (suc (suc (suc _))))) settled stamped = false

-- the second of these with the code behind the others
abbrev pub stamped_by : ℕ → Bool → Bool
stamped_by zero stamped = stamped
stamped_by (suc zero) stamped = false
stamped_by (suc (suc zero)) stamped = true
stamped_by (suc (suc (suc zero))) stamped = stamped
stamped_by (suc (suc (suc (suc zero)))) stamped = false
stamped_by (suc (suc (suc (suc (suc _))))) stamped = stamped

-- ---- decisions

unfoldable pub settled? : (codes : List ℕ) (i : ℕ) → Dec (Settled codes i)
settled? codes zero = no (λ S. omega (arith, S.directly))
settled? codes (suc i) = so? (λ e. record { place = i; directly = refl; settle = e }) (λ (S : Settled codes (suc i)). ap (code_at codes) (let q : i ≡ S.place = omega (arith, S.directly) in q) ∙ S.settle) (ℕ_discrete (code_at codes i) 1)

-- a stamp at the last place before, or one further back that what stands at the last place leaves
pub stamped_here : (codes : List ℕ) (i : ℕ) → code_at codes i ≡ 2 → Stamped codes (suc i)
stamped_here codes i e = record { place = i; before = omega arith; stamp = e; between = λ k a b. absurd (omega (arith, a, b)) }

pub stamped_on : (codes : List ℕ) (i : ℕ) → (code_at codes i ≡ 1 → ⊥) → (code_at codes i ≡ 4 → ⊥) → Stamped codes i → Stamped codes (suc i)
stamped_on codes i settle sweep S = record {
  place = S.place;
  before = omega (arith, S.before);
  stamp = S.stamp;
  between = λ k a b. ⊎_elim (λ (e : k ≡ i). (λ h. settle (ap (code_at codes) (sym e) ∙ h), λ h. sweep (ap (code_at codes) (sym e) ∙ h))) (λ n. S.between k a (omega (arith, b, n))) (same_or k i);
}

pub stamped_back : (codes : List ℕ) (i : ℕ) → Stamped codes (suc i) → (code_at codes i ≡ 2 → ⊥) → (code_at codes i ≡ 1 → ⊥) × (code_at codes i ≡ 4 → ⊥) × Stamped codes i
stamped_back codes i S other =
    let lt : S.place < i = ⊎_elim (λ (e : S.place ≡ i). absurd (other (ap (code_at codes) (sym e) ∙ S.stamp))) (λ n. omega (arith, S.before, n)) (same_or S.place i) in
    let last = S.between i lt (omega arith) in
    (last.0, last.1, record { place = S.place; before = lt; stamp = S.stamp; between = λ k a b. S.between k a (omega (arith, b)) })

-- a stamp before index i + 1, by what stands at index i
abbrev pub Before : List ℕ → ℕ → Type 0
Before codes i = (code_at codes i ≡ 2) ⊎ ((code_at codes i ≡ 1 → ⊥) × ((code_at codes i ≡ 4 → ⊥) × Stamped codes i))

pub stamped_before : (codes : List ℕ) (i : ℕ) → Stamped codes (suc i) → Before codes i
stamped_before codes i S = ⊎_elim inl (λ n. let b = stamped_back codes i S n in inr (b.0, (b.1, b.2))) (same_or (code_at codes i) 2)

pub stamped_so : (codes : List ℕ) (i : ℕ) → Before codes i → Stamped codes (suc i)
stamped_so codes i B = ⊎_elim (stamped_here codes i) (λ b. stamped_on codes i b.0 b.1.0 b.1.1) B

unfoldable pub stamped? : (codes : List ℕ) (i : ℕ) → Dec (Stamped codes i)
stamped? codes zero = no (λ S. omega (arith, S.before))
stamped? codes (suc i) = so? (stamped_so codes i) (stamped_before codes i) (or? (ℕ_discrete (code_at codes i) 2) (and? (not? (ℕ_discrete (code_at codes i) 1)) (and? (not? (ℕ_discrete (code_at codes i) 4)) (stamped? codes i))))

unfoldable pub fits? : (codes : List ℕ) (i : ℕ) → Dec (Fits codes i)
fits? codes i =
    so?
    (λ h. record { least = h.0; most = h.1.0; stamp = h.1.1.0; failed = h.1.1.1.0; sweep = h.1.1.1.1 })
    (λ (F : Fits codes i). (F.least, (F.most, (F.stamp, (F.failed, F.sweep)))))
    (and? (dec_le 1 (code_at codes i))
    (and? (dec_le (code_at codes i) 4)
    (and? (if? (ℕ_discrete (code_at codes i) 2) (settled? codes i))
    (and? (if? (ℕ_discrete (code_at codes i) 3) (stamped? codes i))
    (if? (ℕ_discrete (code_at codes i) 4) (stamped? codes i))))))

unfoldable pub rules? : (codes : List ℕ) → Dec (Rules codes)
rules? codes =
    so?
    (λ h. record { some = h.0; few = h.1.0; each = h.1.1 })
    (λ (R : Rules codes). (R.some, (R.few, R.each)))
    (and? (dec_le 1 (length codes)) (and? (dec_le (length codes) 32) (every? (length codes) (fits? codes))))

unfoldable pub passing? : (p : Programme) → Dec (Passing p)
passing? p = so? (λ h. record { within = h.0; rules = h.1 }) (λ (P : Passing p). (P.within, P.rules)) (and? (dec_le p.length 32) (rules? (codes_of p)))

-- ---- the first code that breaks the rules

abbrev pub offends : List ℕ → ℕ → Bool
offends codes i = not (does (fits? codes i))

-- its place, or their number where none does
unfoldable pub offending_place : List ℕ → ℕ
offending_place codes = first (offends codes) (length codes) 0

unfoldable pub first_offending : List ℕ → Option ℕ
first_offending codes = elim (ltb (offending_place codes) (length codes)) [ true ↦ Some (offending_place codes) | false ↦ None ]

-- that the codes keep the rules, or the place of the first that breaks them
unfoldable pub judge : List ℕ → Result (Unit {0}) ℕ
judge codes = elim (leb 1 (length codes) && leb (length codes) 32) [
  | true ↦ elim (first_offending codes) [ Some i ↦ Err i | None ↦ Ok tt ]
  | false ↦ Err 0
]
