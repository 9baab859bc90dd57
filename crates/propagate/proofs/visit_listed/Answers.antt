-- `propagate::visit_listed` meets its contract. Assumes nothing.
use Rattle.std.proofs.Common.{replicate}
use Rattle.propagate.proofs.Listing.{linking_start, listed_start}
use Rattle.propagate.proofs.visit_listed.Goals as goal

pub link-requires-clause-linking : goal.link-requires-clause-linking
link-requires-clause-linking c = linking_start c.requires (replicate 32768 0)

pub visit_skipping-requires-clause-listed : goal.visit_skipping-requires-clause-listed
visit_skipping-requires-clause-listed c =
    let t = c.link.new.self in
    rw (c.all-pending.ensures.0, c.all-pending.ensures.1) (listed_start c.requires t.heads t.places c.link.ensures.chain_room.variables c.link.ensures.chain_room.records c.link.ensures.linking_2)
