-- What each token says of the words, and the step that the definition takes.
use Rattle.std.proofs.Common.{◌≡◌, ℕ, ℤ, ◌+◌, ◌-◌, Bool, true, List, length, drop, set, refl, sym, ◌∙◌, subst, arith}
use mir.Syntax.{w32}
use mir.Val.{of_z, to_z}
use mir.Facts.{to_z-of_z}
use borrow.Author.Rules.{sfits_of}
use Rattle.dimacs.specs.Words.{words_at}
use Rattle.dimacs.specs.Tokens.{token_of, nought}
use Rattle.dimacs.specs.Text.{budget, literal_of}
use Rattle.dimacs.specs.Header.{fitting}
use Rattle.dimacs.specs.declared.Token.{Token}
use Rattle.dimacs.specs.declared.Token.TheVariants.{Zero, Literal}
use Rattle.dimacs.proofs.Judge.{Told, told, told_end, told_bad, told_zero, told_literal, Seen, SeenLiteral, judge_bad, judge_extra, judge_unfit}
use Rattle.dimacs.proofs.Numbers.{Keeping, keep_zero, keep_literal, keep_end}
use Rattle.dimacs.proofs.judge_words.Goals as goal

-- what the token says of the words
module _ (text : List ℕ) (at : ℕ) where
  here : {t : Token} → t ≡ token_of (words_at (drop at text) at) → Told text at t
  here e = subst (Told text at) (sym e) (told text at)

  zero : {start next : ℕ} → Zero start next ≡ token_of (words_at (drop at text) at) → Seen text at nought start next
  zero e = told_zero _ _ _ (here e) refl

  lit : {b : Bool} {m start next : ℕ} → Literal b m start next ≡ token_of (words_at (drop at text) at) → SeenLiteral text at b m start next
  lit e = told_literal _ _ _ _ _ (here e) refl

pub returns-in-End : goal.returns-in-End
returns-in-End c = keep_end c.loop-start.invariant (told_end _ (here c.args.text.now c.loop-start.at c.in-End.ensures) refl) c.judge_end.ensures

pub returns-in-Bad : goal.returns-in-Bad
returns-in-Bad c = let l = c.loop-start in let a = c.args in let s = a.text.now in
    (sym (judge_bad a.v (budget l.clauses l.literals l.unfinished) (length s) (fitting a.v a.n a.body) (told_bad _ _ (here c.args.text.now c.loop-start.at c.in-Bad.ensures) refl).1) ∙ l.invariant.judged, refl)

pub returns-then-clauses-eq0 : goal.returns-then-clauses-eq0
returns-then-clauses-eq0 c = let l = c.loop-start in let a = c.args in let s = a.text.now in
    (sym (judge_extra a.v (budget l.clauses l.literals l.unfinished) (length s) (fitting a.v a.n a.body) (zero c.args.text.now c.loop-start.at c.in-Zero.ensures) c.if-clauses-eq0.true) ∙ l.invariant.judged, refl)

pub loop-start-smaller-in-Zero : goal.loop-start-smaller-in-Zero
loop-start-smaller-in-Zero c = let z = zero c.args.text.now c.loop-start.at c.in-Zero.ensures in omega (arith, z.further, z.inside)

pub loop-start-preserved-in-Zero : goal.loop-start-preserved-in-Zero
loop-start-preserved-in-Zero c = keep_zero c.loop-start.invariant (zero c.args.text.now c.loop-start.at c.in-Zero.ensures) c.if-clauses-eq0.false

pub returns-then-not-literal_fits : goal.returns-then-not-literal_fits
returns-then-not-literal_fits c = let l = c.loop-start in let a = c.args in let s = a.text.now in
    (sym (judge_unfit a.v (budget l.clauses l.literals l.unfinished) (length s) (fitting a.v a.n a.body) (lit c.args.text.now c.loop-start.at c.in-Literal.ensures) (omega (arith, l.invariant.small.0)) (sym c.literal_fits.ensures ∙ c.if-not-literal_fits.true)) ∙ l.invariant.judged, refl)

pub loop-start-smaller : goal.loop-start-smaller
loop-start-smaller c = let z = lit c.args.text.now c.loop-start.at c.in-Literal.ensures in omega (arith, z.seen.further, z.seen.inside)

pub loop-start-preserved : goal.loop-start-preserved
loop-start-preserved c = let l = c.loop-start in let a = c.args in
    let e : to_z w32 (of_z w32 c.literal_of.result) ≡ literal_of c.in-Literal.negative c.in-Literal.magnitude = to_z-of_z {w = w32} {z = c.literal_of.result} (sfits_of c.literal_of.type_inv) ∙ c.literal_of.ensures in
    subst (λ (x : ℤ). Keeping a.text.now a.v a.n a.body a.numbers.now (set l.numbers l.k x) c.in-Literal.next l.clauses (l.literals - 1) true (l.k + 1)) (sym e) (keep_literal l.invariant (lit c.args.text.now c.loop-start.at c.in-Literal.ensures) (sym c.literal_fits.ensures ∙ c.if-not-literal_fits.false))
