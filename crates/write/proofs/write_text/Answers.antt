-- The text is measured on an empty part of the output, then written.
use Rattle.state.specs.declared.Answer.TheVariants.{Written}
use Rattle.write.proofs.Text.{too_short, fits_out}
use Rattle.write.proofs.write_text.Goals as goal

pub returns-then-out-needed : goal.returns-then-out-needed
returns-then-out-needed c = λ times links. too_short Written c.args.out.now (c.put_formula-needed.ensures times links) c.if-out-needed.true

pub returns : goal.returns
returns c = λ times links. fits_out Written c.args.out.now (c.put_formula-needed.ensures times links) c.if-out-needed.false (c.put_formula-written.ensures times links)
