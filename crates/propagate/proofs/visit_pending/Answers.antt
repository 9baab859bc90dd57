use Rattle.std.proofs.Common.{[]}
use Rattle.propagate.proofs.Listing.{listed_plain, has_chain_unit, listed_unit}
use Rattle.propagate.proofs.visit_pending.Goals as goal

pub set_pending-requires : goal.set_pending-requires
set_pending-requires c =
    let v = c.visit_clause-seen in
    rw (c.clear.ensures.0, c.clear.ensures.1)
    (has_chain_unit c.requires.stands_before c.requires.listed v.result v.new.clauses v.new.literals v.new.variables (v.ensures [] []) c.in-MadeTrue.w c.in-MadeTrue.is)

pub returns-in-MadeTrue-clause-listed_2 : goal.returns-in-MadeTrue-clause-listed_2
returns-in-MadeTrue-clause-listed_2 c =
    let v = c.visit_clause-seen in
    let r = c.set_pending in
    λ d. listed_unit c.requires.stands_before c.requires.listed v.result v.new.clauses v.new.literals v.new.variables (v.ensures [] []) c.in-MadeTrue.w c.in-MadeTrue.is r.new.self.flags r.new.self.blocks r.ensures.room.0 r.ensures.room.1 (rw c.clear.ensures.0 at r.ensures.pending_all)

-- a visit that answers another variant sets no value
pub returns-in_default : goal.returns-in_default
returns-in_default c =
    let v = c.visit_clause-seen in
    record {
      by_index = v.ensures;
      listed_2 = λ d. rw (c.clear.ensures.0, c.clear.ensures.1) (listed_plain c.requires.stands_before c.requires.listed v.result v.new.clauses v.new.literals v.new.variables (v.ensures [] []) d c.in_default.not-MadeTrue);
    }
