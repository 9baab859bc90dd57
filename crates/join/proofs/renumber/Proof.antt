-- `join::renumber` meets its contract. Assumes nothing.
use Prim.Native.Nat.{ℕ, ◌<◌}
use native.Mathlib.Omega.{arith}
use mathlib.Core.Path.{◌≡◌, sym, ap, subst, ◌∙◌}
use lib.ListN.{get_or}
use lib.IntN.{nat_abs, pos}
use lib.Signed.{non_neg}
use Rattle.literal.specs.Literals.{Small, sign_by}
use Rattle.literal.proofs.Signed.{back, small_fits}
use Rattle.join.proofs.Appending.{signed_small}
use Rattle.join.proofs.renumber.Statement.{statement}
use Rattle.join.proofs.renumber.Tie as tie

small : (c : tie.Start) → Small c.args.x
small c = record { small = omega (arith, c.requires.0) }

variable : (c : tie.After-var_of-i) → c.var_of-i.result ≡ nat_abs c.args.x
variable c = c.var_of-i.ensures ∙ ap nat_abs (back (small c.before.before))

var-of-requires : tie.Need-var_of-i-requires
var-of-requires c κs = subst Small (sym (back (small c.before))) (small c.before)

mul-number : tie.Need-offset_bounds-numbering-i
mul-number c = omega (arith, variable c, c.requires.0)

shared-slice-read-number : tie.Need-bounds-numbering-i
shared-slice-read-number c =
    omega (arith, variable c.before, c.requires.0, c.requires.1.0)

low : (c : tie.After-shared_slice_known-2-1) → get_or c.args.numbering.now c.var_of-i.result 0 < 65536
low c =
    subst (λ (x : ℕ). get_or c.args.numbering.now x 0 < 65536) (sym (variable c.before)) c.requires.1.1

numbered : (c : tie.After-shared_slice_known-2-1) → Small (pos (get_or c.args.numbering.now c.var_of-i.result 0))
numbered c = record { small = omega (arith, low c) }

cast-number : tie.Need-overflow_cast-number
cast-number c = small_fits (numbered c)

signed-by-requires : tie.Need-signed_by-requires
signed-by-requires c κs = subst Small (sym (back (numbered c))) (numbered c)

-- what is returned, by the number that was read
signed : (c : tie.After-signed_by) → c.signed_by.result ≡ sign_by (non_neg c.args.x) (pos (get_or c.args.numbering.now c.var_of-i.result 0))
signed c = c.signed_by.ensures ∙ (λ i. sign_by (non_neg (back (small c.before.before.before.before) i)) (back (numbered c.before) i))

returns : tie.Need-returns
returns c =
    let q : Small c.signed_by.result = subst Small (sym (signed c)) (signed_small (non_neg c.args.x) (numbered c.before)) in
    back q ∙ signed c ∙ ap (λ (x : ℕ). sign_by (non_neg c.args.x) (pos (get_or c.args.numbering.now x 0))) (variable c.before.before)

pub renumber_spec : {M : Type 1} → statement M
renumber_spec = tie.close (tie.spec
    var-of-requires
    mul-number
    shared-slice-read-number
    cast-number
    signed-by-requires
    returns)
