-- A formula that fits can be laid.
use Rattle.load.proofs.lay_judged.Goals as goal

pub lay-requires : goal.lay-requires
lay-requires c = let h = c.in-Ok.h in
    let layable = c.requires.0.fits h.v h.n h.body c.in-Ok.is in
    (layable.0, (layable.1, c.requires.1))
