-- Written texts behind an accepted load or join. Right behind it, Write gives its clauses with repeats removed and those with v and -v left out, and that text is accepted again with just these;
-- behind any list of calls, refused ones included, what Write gives has the satisfying assignments of the loaded or joined formula. Assumes nothing.
use Prim.Native.Nat.{ℕ}
use mathlib.Core.Path.{◌≡◌, refl, sym, ap, ◌∙◌, subst}
use mathlib.Core.Logic.Iff
use mathlib.Core.Logic.{◌↔◌}
use mathlib.Core.List.{List, []}
use lib.ListN.{length}
use lib.IntN.{ℤ}
use Rattle.literal.specs.Assignments.{Assignment, Satisfies}
use Rattle.tables.specs.Calls.{After}
use Rattle.dimacs.specs.Text.{text_clauses}
use Rattle.write.specs.Write.{written_clauses}
use Rattle.roundtrip.specs.Plain.{read_clauses}
use Rattle.roundtrip.proofs.ReadBack.{body_at}
use Rattle.roundtrip.proofs.Reread.{clauses_after, text_after, accepted_written, reread_judged, reread_clauses}
use Rattle.call_lists.specs.Lists.{Step, steps_on}
use Rattle.call_lists.specs.Starts.{Start, load, join, formula_of, verdict_on, Started, formula, begun, formula_text, after, text_by}
use Rattle.refinement.proofs.Starting.{Laid, started_laid}
use Rattle.refinement.proofs.Demand3.{demand_3, held}
use Rattle.equivalence.specs.Equivalent.{TextFor}
use Rattle.equivalence.proofs.Standing.{written_stands}

module _ (b : Started) where
  -- behind any list of calls
  pub list_written : (ss : List Step) (τ : Assignment) → Satisfies τ (written_clauses (after b ss).tables (after b ss).state) ↔ Satisfies τ (formula b)
  list_written ss τ = Iff.trans (Iff.symm (written_stands (after b ss).tables (after b ss).state (held b ss).shape τ)) (demand_3 b ss τ)

  abbrev L : Laid b
  L = started_laid b

  -- right behind the start
  pub start_written : clauses_after (begun b) ≡ read_clauses (formula b)
  start_written = accepted_written L.v L.n (formula b) L.few L.most L.within b.tables (begun b) L.is

  written : (τ : Assignment) → Satisfies τ (text_clauses (text_after (begun b))) ↔ Satisfies τ (formula b)
  unfolding steps_on
  written τ =
      subst (λ (cs : List (List ℤ)). Satisfies τ cs ↔ Satisfies τ (formula b))
      (start_written ∙ sym (reread_clauses L.v L.n (formula b) L.few L.most L.within b.tables (begun b) L.is)) (list_written [] τ)

  -- its text, which a log will be checked against: the text that was loaded, or what Write gives of a join
  pub start_text : TextFor (begun b).state.v (formula b) (formula_text b)
  start_text = subst (λ (v : ℕ). TextFor v (formula b) (formula_text b)) (sym (ap (λ (a : After). a.state.v) L.is)) (by b.start refl)
    where
      by : (s : Start) → b.start ≡ s → TextFor L.v (formula b) (text_by s (begun b))
      by (load text) e = record {
        number = L.n;
        body = L.body;
        accepted = ap verdict_on (sym e) ∙ L.fits;
        same = λ τ. subst (λ (s : Start). Satisfies τ (text_clauses text) ↔ Satisfies τ (formula_of s)) (sym e) (λ h. h, λ h. h);
      }
      by (join left right links) e = record {
        number = length (read_clauses (formula b));
        body = body_at L.v (length (read_clauses (formula b)));
        accepted = reread_judged L.v L.n (formula b) L.few L.most L.within b.tables (begun b) L.is;
        same = written;
      }
