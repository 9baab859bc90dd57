-- `programmes::stamped_after` meets its contract. Assumes nothing.
use Prim.Native.Nat.{ℕ, zero, suc}
use mathlib.Core.Path.{◌≡◌, refl}
use mathlib.Core.Bool.{Bool}
use Rattle.programmes.specs.Judging.{stamped_by}
use borrow.Author.Rules.{rules}
use Rattle.programmes.proofs.stamped_after.Statement.{statement}
use Rattle.programmes.proofs.stamped_after.Tie as tie

-- a code that is no settle, stamp or sweep
other : (code : ℕ) (stamped : Bool) → (code ≡ 1 → ⊥) → (code ≡ 2 → ⊥) → (code ≡ 4 → ⊥) → stamped ≡ stamped_by code stamped
other zero stamped n₁ n₂ n₄ = refl
other (suc zero) stamped n₁ n₂ n₄ = absurd (n₁ refl)
other (suc (suc zero)) stamped n₁ n₂ n₄ = absurd (n₂ refl)
other (suc (suc (suc zero))) stamped n₁ n₂ n₄ = refl
other (suc (suc (suc (suc zero)))) stamped n₁ n₂ n₄ = absurd (n₄ refl)
other (suc (suc (suc (suc (suc _))))) stamped n₁ n₂ n₄ = refl

returns : tie.Need-returns-in-1
returns c = search rules

returns-2 : tie.Need-returns-in-2
returns-2 c = search rules

returns-3 : tie.Need-returns-in-4
returns-3 c = search rules

returns-4 : tie.Need-returns-in_default
returns-4 c = let none = c.in_default.in_default-own.rest in other _ _ none.0.0.1 none.0.1 none.1

pub stamped_after_spec : {M : Type 1} → statement M
stamped_after_spec = tie.close (tie.spec
    returns
    returns-2
    returns-3
    returns-4)
