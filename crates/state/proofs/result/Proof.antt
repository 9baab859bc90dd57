-- `state::result` meets its contract: a refusal's number is 1 to 13, so it has a negative. Assumes nothing.
use Prim.Native.Nat.{ℕ, zero, suc, ◌≤◌}
use native.Mathlib.Omega.{arith}
use mathlib.Core.Path.{◌≡◌, sym, ap, subst, ◌∙◌}
use lib.IntN.{ℤ, pos, neg_ℤ, ◌-ℤ◌, +ℤ_idl}
use mir.Syntax.{w64}
use mir.Val.{SFits, to_z}
use mir.Facts.{to_z-of_z, to_z_pos}
use Rattle.state.specs.Answers.{result_by}
use Rattle.state.proofs.Numbers.{result_negative}
use borrow.Author.Rules.{rules}
use Rattle.state.proofs.result.Statement.{statement}
use Rattle.state.proofs.result.Tie as tie

negative_fits : (n : ℕ) → n ≤ 15 → SFits w64 (neg_ℤ (pos n))
negative_fits zero h = record { sfits = omega arith }
negative_fits (suc n) h = record { sfits = omega arith }

negated : (c : tie.Else-number-eq0) → pos 0 -ℤ to_z w64 c.args.number ≡ neg_ℤ (pos c.args.number)
negated c = ap (λ (z : ℤ). pos 0 -ℤ z) (to_z_pos w64 {n = c.args.number} (omega (arith, c.requires.0))) ∙ +ℤ_idl (neg_ℤ (pos c.args.number))

cast-result : tie.Need-overflow_cast-result
cast-result c = record { sfits = omega (arith, c.requires.1 c.if-number-eq0.true) }

returns : tie.Need-returns-then-number-eq0
returns c = to_z_pos w64 (omega (arith, c.requires.1 c.if-number-eq0.true)) ∙ ap (λ (n : ℕ). result_by n c.args.value) (sym c.if-number-eq0.true)

cast-result-2 : tie.Need-overflow_cast-result-2
cast-result-2 c = search rules

sub-result : tie.Need-overflow_sub-result
sub-result c = subst (SFits w64) (sym (negated c)) (negative_fits c.args.number c.requires.0)

returns-2 : tie.Need-returns
returns-2 c = to_z-of_z (sub-result c) ∙ negated c ∙ sym (result_negative c.args.number c.args.value (omega (arith, c.if-number-eq0.false)))

pub result_spec : {M : Type 1} → statement M
result_spec = tie.close (tie.spec
    cast-result
    returns
    cast-result-2
    sub-result
    returns-2)
