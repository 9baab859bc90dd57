-- The pieces one behind the other; their sum is short (`text_short`), so no place overflows.
use Rattle.std.proofs.Common.{arith, rules, ◌≡◌, ℕ, ◌+◌, ◌<◌, ◌^◌, List, length, ℤ}
use Rattle.tables.specs.Tables.{tables}
use Rattle.printing.specs.Printing.{clauses_text, header_text}
use Rattle.printing.proofs.Storing.{stored_anew}
use Rattle.write.specs.Gathered.{gathered, unit_at, class_at, written_at, formula}
use Rattle.write.specs.Printable.{Printable}
use Rattle.write.proofs.Bounds.{header_short, text_short}
use Rattle.write.proofs.Text.{none_small, empty_length, standing_ready, formula_below, wrote_marked, wrote_unmarked}
use Rattle.write.proofs.put_formula.Goals as goal

-- the header with the number of clauses, and all clauses are short
short : (clauses : List ℕ) (literals variables : List ℤ) (v n : ℕ) → Printable clauses literals variables v n → (count : ℕ) → ((ls : List ℤ) → count ≡ length (formula clauses ls variables v n))
    → length (header_text v count) + length (clauses_text (gathered (unit_at variables) v 0)) + length (clauses_text (gathered (class_at variables) v 0)) + length (clauses_text (gathered (written_at clauses literals) n 0)) < 2 ^ 63
short clauses literals variables v n R count e = text_short clauses literals variables v n R count (omega (arith, e literals, formula_below clauses literals variables v n R))

pub put_header-requires : goal.put_header-requires
put_header-requires c =
    let a = c.args in
    omega (arith, c.new-writer.ensures.front, text_short a.clauses.now a.literals.now a.variables.now a.st.v a.st.n c.requires 1 (omega arith))

pub put_clause-requires : goal.put_clause-requires
put_clause-requires c =
    let a = c.args in
    let header = header_short a.clauses.now a.literals.now a.variables.now a.st.v a.st.n c.requires 1 (omega arith) in
    (none_small, omega (arith, c.new-writer.ensures.front, c.put_header.ensures.bytes_stored.next, empty_length, header))

pub returns-then-st : goal.returns-then-st
returns-then-st c = λ times links.
    let a = c.args in
    let t = tables a.clauses.now a.literals.now a.variables.now times links in
    stored_anew c.new-writer.ensures.front c.new-writer.ensures.output (wrote_marked t a.st c.if-st.true c.put_header.ensures c.put_clause.ensures) (search rules)

pub put_header-requires-2 : goal.put_header-requires-2
put_header-requires-2 c =
    let a = c.args in
    omega (arith, c.new-writer.ensures.front, short a.clauses.now a.literals.now a.variables.now a.st.v a.st.n c.requires c.count_clauses.result c.count_clauses.ensures)

pub put_units-requires : goal.put_units-requires
put_units-requires c =
    let a = c.args in
    let text = short a.clauses.now a.literals.now a.variables.now a.st.v a.st.n c.requires c.count_clauses.result c.count_clauses.ensures in
    (c.requires.v_limit, c.requires.pairs, omega (arith, c.new-writer.ensures.front, c.put_header-2.ensures.bytes_stored.next, text))

pub put_classes-requires : goal.put_classes-requires
put_classes-requires c =
    let a = c.args in
    let text = short a.clauses.now a.literals.now a.variables.now a.st.v a.st.n c.requires c.count_clauses.result c.count_clauses.ensures in
    let units = c.put_units.ensures.bytes_stored.next in
    (c.requires.v_limit, c.requires.pairs, c.requires.classes, omega (arith, c.new-writer.ensures.front, c.put_header-2.ensures.bytes_stored.next, units, text))

pub put_standing-requires : goal.put_standing-requires
put_standing-requires c =
    let a = c.args in
    let text = short a.clauses.now a.literals.now a.variables.now a.st.v a.st.n c.requires c.count_clauses.result c.count_clauses.ensures in
    let units = c.put_units.ensures.bytes_stored.next in
    let classes = c.put_classes.ensures.bytes_stored.next in
    (standing_ready a.clauses.now a.literals.now a.variables.now a.st.v a.st.n c.requires, omega (arith, c.new-writer.ensures.front, c.put_header-2.ensures.bytes_stored.next, units, classes, text))

pub returns : goal.returns
returns c = λ times links.
    let a = c.args in
    let t = tables a.clauses.now a.literals.now a.variables.now times links in
    let count = c.count_clauses.ensures a.literals.now in
    let wrote = wrote_unmarked t a.st c.requires c.if-st.false count c.put_header-2.ensures c.put_units.ensures c.put_classes.ensures c.put_standing.ensures in
    stored_anew c.new-writer.ensures.front c.new-writer.ensures.output wrote (search rules)
