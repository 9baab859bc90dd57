-- `explain::find_drop` meets its contract. Assumes nothing.
use native.Mathlib.Omega.{arith}
use mathlib.Core.Path.{refl, ap, ◌∙◌}
use mathlib.Core.List.{[], ◌∷◌}
use lib.ListN.{take}
use lib.IntN.{ℤ}
use Rattle.explain.proofs.Gathering.{put_pair}
use borrow.Author.Rules.{rules}
use Rattle.explain.proofs.find_drop.Statement.{statement}
use Rattle.explain.proofs.find_drop.Tie as tie

drop-ends-requires : tie.Need-drop_ends-requires
drop-ends-requires c κs = search rules

put-ends-requires : tie.Need-put_ends-requires
put-ends-requires c κs = search rules

same_length : tie.Need-shape_of-ends
same_length c = search rules

returns : tie.Need-returns
returns c =
    let e = c.drop_ends in
    record {
      verdict = refl;
      out = refl;
      shown = record {
        number = refl;
        pairs =
            ap (take {A = ℤ} 2) c.put_ends.ensures
            ∙ put_pair c.args.ends.now 0 e.result.top e.result.bottom (omega (arith, c.requires.1))
            ∙ (λ i. (e.ensures i).top ∷ (e.ensures i).bottom ∷ []);
      };
    }

pub find_drop_spec : {M : Type 1} → statement M
find_drop_spec = tie.close (tie.spec
    drop-ends-requires
    put-ends-requires
    same_length
    returns)
