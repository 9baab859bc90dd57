-- `occurrences::Chains::link_clause` keeps its invariant: one place more is linked. Assumes nothing.
use mir.Syntax.{w32}
use mir.Val.{of_z, to_z}
use Rattle.std.proofs.Common.{◌≡◌, refl, arith, rules, get_or, ℤ, pos}
use Rattle.tables.specs.Tables.{variable_at}
use Rattle.occurrences.proofs.Linking.{place_small, place_room, linking_step}
use Rattle.occurrences.proofs.Chains.link_clause.Goals as goal

pub var_of-w-requires : goal.var_of-w-requires
var_of-w-requires c =
    let a = c.args in
    let p = c.loop-p.p in
    let lit : ℤ = get_or a.literals.now p (pos 0) in
    let read : to_z w32 (of_z w32 lit) ≡ lit = search rules in
    rw read (place_small c.requires.linkable (omega arith) p (variable_at a.literals.now p) (omega arith) c.loop-p-test.true refl)

pub link_place-requires : goal.link_place-requires
link_place-requires c =
    let a = c.args in
    let p = c.loop-p.p in
    let lit : ℤ = get_or a.literals.now p (pos 0) in
    let read : to_z w32 (of_z w32 lit) ≡ lit = search rules in
    place_room c.requires.linkable (omega arith) p c.var_of-w.result (omega arith) c.loop-p-test.true (rw read at c.var_of-w.ensures)

pub loop-p-preserved : goal.loop-p-preserved
loop-p-preserved c =
    let a = c.args in
    let p = c.loop-p.p in
    let lit : ℤ = get_or a.literals.now p (pos 0) in
    let read : to_z w32 (of_z w32 lit) ≡ lit = search rules in
    linking_step c.requires.linkable (omega arith) p c.var_of-w.result (omega arith) c.loop-p-test.true (rw read at c.var_of-w.ensures)
    c.loop-p.invariant.0 c.loop-p.invariant.1 c.link_place.new.self.heads c.link_place.new.self.places c.link_place.ensures.0 c.link_place.ensures.1
