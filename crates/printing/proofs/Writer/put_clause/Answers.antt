-- The room for a literal and its space, and for the two bytes of the line's end, is part of the whole clause's text.
use Rattle.std.proofs.Common.{ℕ, ◌+◌, ◌≡◌, List, length, ◌∙◌, ap, refl, arith}
use Rattle.std.proofs.lemmas.List.Edits.{sets}
use Rattle.printing.specs.declared.Writer.{Writer}
use Rattle.printing.specs.Stored.{Wrote}
use Rattle.literal.proofs.Signed.{back}
use Rattle.printing.proofs.Storing.{clause_room, clause_step, clause_room_end, clause_end}
use Rattle.printing.proofs.Writer.put_clause.Goals as goal

-- a writer with the same place and output is as good
wrote_at : {bytes : List ℕ} {w v u : Writer} → Wrote bytes v u → v.at ≡ w.at → v.out.now ≡ w.out.now → v.out.ghost_name ≡ w.out.ghost_name → Wrote bytes w u
wrote_at {bytes} s at out name = record {
  bytes_stored = record { next = s.bytes_stored.next ∙ ap (λ (k : ℕ). k + length bytes) at; stored = s.bytes_stored.stored ∙ (λ i. sets (out i) (at i) bytes) };
  same_reference = s.same_reference ∙ name;
}

pub put_literal-requires : goal.put_literal-requires
put_literal-requires c =
    let small = c.requires.0.each c.loop-l.l-index c.loop-l-test.true in
    rw (back small) (small, omega (arith, clause_room c.args.clause.now c.loop-l.l-index c.loop-l.invariant c.loop-l-test.true c.requires.1))

pub put_byte-requires : goal.put_byte-requires
put_byte-requires c =
    let e = rw (back (c.requires.0.each c.loop-l.l-index c.loop-l-test.true)) at c.put_literal.ensures in
    omega (arith, e.bytes_stored.next, clause_room c.args.clause.now c.loop-l.l-index c.loop-l.invariant c.loop-l-test.true c.requires.1)

pub loop-l-preserved : goal.loop-l-preserved
loop-l-preserved c =
    let e = rw (back (c.requires.0.each c.loop-l.l-index c.loop-l-test.true)) at c.put_literal.ensures in
    clause_step c.args.clause.now c.loop-l.l-index c.loop-l.invariant c.loop-l-test.true e c.put_byte.ensures

pub put_byte-requires-3 : goal.put_byte-requires-3
put_byte-requires-3 c =
    omega (arith, c.put_byte-2.ensures.bytes_stored.next, clause_room_end c.args.clause.now c.loop-l.l-index c.loop-l.invariant c.loop-l-test.false c.requires.1)

pub returns : goal.returns
returns c =
    let e = c.put_byte-3.ensures in
    clause_end c.args.clause.now c.loop-l.l-index c.loop-l.invariant c.loop-l-test.false c.put_byte-2.ensures
    (wrote_at e (omega (arith, c.put_byte-2.ensures.bytes_stored.next)) refl refl)
