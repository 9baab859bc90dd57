-- Where the complement holds the literal, the scan stops with yes; where it does not, the one of the two that begins first is passed; where one list is passed, there is none.
use Rattle.std.proofs.Common.{arith, get_or, sym, ◌∙◌}
use Rattle.base.proofs.Lists.{get_d_mem}
use Rattle.stamp_columns.specs.Columns.{columns}
use Rattle.hidden.proofs.Relations.{read_holds, read_begins_first}
use Rattle.discovery_order.proofs.Sorting.{slot_at}
use Rattle.hidden_tautologies.proofs.Scanning.{scanning_empty, scanning_end, scanning_next_pos, scanning_next_neg, scanning_yes, scanned_one, scanned_other, scanned_nested}
use Rattle.hidden_tautologies.proofs.scan.Goals as goal
use Rattle.hidden_tautologies.proofs.scan.Goals.{then-i-pos-via-then-i-pos, then-i-pos-via-else-i-pos+then-j-neg}

pub compare-lies-requires : goal.compare-lies-requires
compare-lies-requires c =
    let one = slot_at (scanned_one c.requires) c.loop-i.i c.if-i-pos.false in
    let other = slot_at (scanned_other c.requires) c.loop-i.j c.if-j-neg.false in
    (omega arith, omega arith)

pub loop-i-preserved-then-begins_first : goal.loop-i-preserved-then-begins_first
loop-i-preserved-then-begins_first c = λ links.
    let P = c.requires in
    let σ = columns c.args.times.now links in
    let p = get_or c.args.pos.now c.loop-i.i 0 in
    let q = get_or c.args.neg.now c.loop-i.j 0 in
    let first =
    read_begins_first P.size σ (scanned_nested P links) q p (P.other _ (get_d_mem _ _ 0 c.if-j-neg.false)) (P.one _ (get_d_mem _ _ 0 c.if-i-pos.false)) c.compare-lies.ensures c.begins_first.ensures in
    scanning_next_neg (c.loop-i.invariant links) c.if-i-pos.false c.if-j-neg.false (read_holds σ q p c.compare-lies.ensures c.contains.ensures ∙ c.if-contains.false) (first ∙ c.if-begins_first.true)

pub loop-i-preserved : goal.loop-i-preserved
loop-i-preserved c = λ links.
    let P = c.requires in
    let σ = columns c.args.times.now links in
    let p = get_or c.args.pos.now c.loop-i.i 0 in
    let q = get_or c.args.neg.now c.loop-i.j 0 in
    let first =
    read_begins_first P.size σ (scanned_nested P links) q p (P.other _ (get_d_mem _ _ 0 c.if-j-neg.false)) (P.one _ (get_d_mem _ _ 0 c.if-i-pos.false)) c.compare-lies.ensures c.begins_first.ensures in
    scanning_next_pos (c.loop-i.invariant links) c.if-i-pos.false c.if-j-neg.false (read_holds σ q p c.compare-lies.ensures c.contains.ensures ∙ c.if-contains.false) P.size (scanned_nested P links) P.one P.other
    (first ∙ c.if-begins_first.false)

pub returns-then-i-pos : goal.returns-then-i-pos
returns-then-i-pos c = λ links.
    elim c.then-i-pos.branch [
      | then-i-pos-via-then-i-pos w ↦ sym (scanning_empty (c.loop-i.invariant links) w.if-i-pos.true)
      | then-i-pos-via-else-i-pos+then-j-neg w ↦ sym (scanning_end (c.loop-i.invariant links) w.if-j-neg.true)
    ]

pub returns-then-contains : goal.returns-then-contains
returns-then-contains c = λ links.
    let σ = columns c.args.times.now links in
    let p = get_or c.args.pos.now c.loop-i.i 0 in
    let q = get_or c.args.neg.now c.loop-i.j 0 in
    sym (scanning_yes (c.loop-i.invariant links) c.if-i-pos.false c.if-j-neg.false (read_holds σ q p c.compare-lies.ensures c.contains.ensures ∙ c.if-contains.true))
