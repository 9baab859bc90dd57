-- The header is refused, or the words behind it are judged; the clauses that are kept are the text's.
use Rattle.std.proofs.Common.{◌≡◌, ℕ, ℤ, List, Result, Err, refl, sym, ap, ◌∙◌, subst}
use Rattle.std.proofs.lemmas.Result.{err_from_is_err_and}
use Rattle.state.specs.declared.Refusal.{Refusal}
use Rattle.dimacs.specs.declared.Header.{Header}
use Rattle.dimacs.specs.Header.{header}
use Rattle.dimacs.specs.Text.{judge_body, judge_text, body_of, text_clauses}
use Rattle.dimacs.specs.Numbers.{clauses_kept, Judged}
use Rattle.dimacs.proofs.Judge.{header_small}
use Rattle.dimacs.proofs.judge_text.Goals as goal

judged : (text : List ℕ) (ns : List ℤ) {r : Result Header Refusal} → (r ≡ judge_text text) × (clauses_kept r ns ≡ body_of text r) → Judged (judge_text text) (text_clauses text) r ns
judged text ns e = record { is = e.0; kept = λ v n body f. ap (λ (x : Result Header Refusal). clauses_kept x ns) (sym f) ∙ e.1 ∙ ap (body_of text) e.0 }

refused : (text : List ℕ) (ns : List ℤ) {r : Result Header Refusal} (d : Refusal) → r ≡ Err d → Err d ≡ header text → Judged (judge_text text) (text_clauses text) r ns
unfolding judge_text
refused text ns d e h = judged text ns (e ∙ ap (judge_body text) h, subst (λ (x : Result Header Refusal). clauses_kept x ns ≡ body_of text x) (sym e) refl)

pub returns-in_err-header : goal.returns-in_err-header
returns-in_err-header c =
    let p = err_from_is_err_and c.from_residual.result c.from_residual.ensures.1 in
    refused _ _ _ (p.1 ∙ ap (λ (d : Refusal). Err d) p.2) c.in_err-header.ensures

pub judge_words-requires : goal.judge_words-requires
judge_words-requires c = let small = header_small _ _ _ _ (sym c.in_ok-header.ensures) in (small.0, (small.1, c.requires))

pub returns : goal.returns
unfolding judge_text
returns c = judged _ _ (rw (sym c.in_ok-header.ensures) c.judge_words.ensures.0, c.judge_words.ensures.1)
