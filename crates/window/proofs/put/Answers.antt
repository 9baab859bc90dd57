-- The record that is copied stands behind the others. Assumes nothing.
use Rattle.window.specs.Window.{places}
use Rattle.window.proofs.Returning.{put_back}
use Rattle.window.proofs.put.Goals as goal

pub returns : goal.returns
returns c = put_back (places c.args.sizes.now c.args.learnt.now c.args.window) c.args.row.now c.args.size c.copy_from_slice.new.self c.requires.0 c.requires.1 c.copy_from_slice.ensures.after
