-- `programmes::code_fits` meets its contract. Assumes nothing.
use Prim.Native.Nat.{ℕ, zero, suc}
use mathlib.Core.Path.{◌≡◌, refl}
use mathlib.Core.Bool.{Bool, false}
use Rattle.programmes.specs.Judging.{fits_by}
use borrow.Author.Rules.{rules}
use Rattle.programmes.proofs.code_fits.Statement.{statement}
use Rattle.programmes.proofs.code_fits.Tie as tie

-- a code that is none of the four
other : (code : ℕ) (settled stamped : Bool) → (code ≡ 1 → ⊥) → (code ≡ 2 → ⊥) → (code ≡ 3 → ⊥) → (code ≡ 4 → ⊥) → false ≡ fits_by code settled stamped
other zero settled stamped n₁ n₂ n₃ n₄ = refl
other (suc zero) settled stamped n₁ n₂ n₃ n₄ = absurd (n₁ refl)
other (suc (suc zero)) settled stamped n₁ n₂ n₃ n₄ = absurd (n₂ refl)
other (suc (suc (suc zero))) settled stamped n₁ n₂ n₃ n₄ = absurd (n₃ refl)
other (suc (suc (suc (suc zero)))) settled stamped n₁ n₂ n₃ n₄ = absurd (n₄ refl)
other (suc (suc (suc (suc (suc _))))) settled stamped n₁ n₂ n₃ n₄ = refl

returns : tie.Need-returns-in-1
returns c = search rules

returns-2 : tie.Need-returns-in-2
returns-2 c = search rules

returns-3 : tie.Need-returns-in-3
returns-3 c = search rules

returns-4 : tie.Need-returns-in-4
returns-4 c = search rules

returns-5 : tie.Need-returns-in_default
returns-5 c = let none = c.in_default.in_default-own.rest in other _ _ _ none.0.0.0.1 none.0.0.1 none.0.1 none.1

pub code_fits_spec : {M : Type 1} → statement M
code_fits_spec = tie.close (tie.spec
    returns
    returns-2
    returns-3
    returns-4
    returns-5)
