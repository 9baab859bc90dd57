use Rattle.std.proofs.Common.{arith, ◌≡◌, ◌*◌, ◌-◌, ◌+◌, subst, ℕ, rules}
use Rattle.literal.specs.Literals.{Literal}
use Rattle.literal.proofs.Signed.{read}
use Rattle.tables.specs.Tables.{class_of}
use Rattle.write.proofs.Gathering.{class_clauses_of, putting_room, putting_step, putting_end}
use Rattle.write.proofs.put_classes.Goals as goal

pub put_class-requires : goal.put_class-requires
put_class-requires c =
    let w = c.loop-w.w in
    let xs = c.args.variables.now in
    let e : w - 1 + 1 ≡ w = omega arith in
    rw (read xs (2 * w - 2) (search rules)) (
      omega arith,
      subst (λ (k : ℕ). Literal k (class_of xs k)) e (c.requires.2 (w - 1) (omega arith)),
      putting_room c.loop-w.invariant (omega arith) (class_clauses_of xs w (omega arith)) c.requires.3,
    )

pub loop-w-preserved : goal.loop-w-preserved
loop-w-preserved c =
    let w = c.loop-w.w in
    let xs = c.args.variables.now in
    let stored = rw (read xs (2 * w - 2) (search rules)) at c.put_class.ensures in
    putting_step c.loop-w.invariant (omega arith) (class_clauses_of xs w (omega arith)) (omega arith) stored

pub returns : goal.returns
returns c = putting_end c.loop-w.invariant (omega arith)

-- behind the last variable
pub returns-2 : goal.returns-2
returns-2 c =
    let w = c.loop-w.w in
    let xs = c.args.variables.now in
    let stored = rw (read xs (2 * w - 2) (search rules)) at c.put_class.ensures in
    putting_end (putting_step c.loop-w.invariant (omega arith) (class_clauses_of xs w (omega arith)) {j = w} (omega arith) stored) (omega arith)
