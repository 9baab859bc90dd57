-- The first k clauses are right, and their literals are counted (`Checking`). Assumes nothing.
use Rattle.std.proofs.Common.{ℕ, ◌≡◌, ◌+◌, ◌*◌, ◌<◌, get_or, take, sym, subst, arith, length-take}
use Rattle.std.proofs.lemmas.List.{get_or-take}
use Rattle.window.specs.Window.{places}
use Rattle.window.specs.Rule.{Learnable}
use Rattle.window.proofs.Checking.{Checking, checking_begin, checking_next}
use Rattle.window.proofs.clauses_ok.Goals as goal

pub loop-k-init : goal.loop-k-init
loop-k-init c = checking_begin c.args.v (places c.args.sizes.now c.args.learnt.now c.args.window) c.args.last.now c.requires.4

pub loop-k-preserved : goal.loop-k-preserved
loop-k-preserved c =
    let a = c.args in
    let k = c.loop-k.k in
    let w = places a.sizes.now a.learnt.now a.window in
    let inside : k < a.window.clauses = omega (arith, length-take a.window.clauses a.sizes.now) in
    let e : get_or (take a.window.clauses a.sizes.now) k 0 ≡ get_or a.sizes.now k 0 = get_or-take a.window.clauses a.sizes.now k 0 inside in
    let right = subst (λ (size : ℕ). Learnable a.v a.learnt.now (64 * k) size) e (c.clause_ok.ensures.0.holds c.if-not-clause_ok.false) in
    subst
    (λ (size : ℕ). Checking a.v w (k + 1) (c.loop-k.total + size) c.clause_ok.new.last)
    (sym e)
    (checking_next c.loop-k.invariant right c.clause_ok.auto.last c.clause_ok.ensures.1)
