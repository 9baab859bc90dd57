-- The judgement of a join by its tests: the left text, the right text, the links, the limits. Assumes nothing.
use Prim.Native.Nat.{ℕ, ◌+◌, ◌≤◌}
use native.Mathlib.Omega.{arith}
use mathlib.Core.Path.{◌≡◌, refl, sym, ap, subst, ◌∙◌}
use mathlib.Core.Bool.{Bool, true, false}
use mathlib.Core.List.{List, ◌++◌}
use lib.ListN.{length}
use lib.IntN.{ℤ}
use borrow.Author.Tests.{le-ltb}
use Rattle.state.specs.declared.Refusal.{Refusal}
use Rattle.state.specs.declared.Refusal.TheVariants.{Limit, Link}
use Rattle.dimacs.specs.Text.{judge_text, text_clauses}
use Rattle.dimacs.specs.Numbers.{clauses_in, Judged}
use Rattle.dimacs.proofs.Judge.{fitting_is}
use Rattle.dimacs.proofs.Accepted.{text_within}
use Rattle.join.specs.Links.{pair_count, first_bad, joined_variables, renumbered_clauses}
use Rattle.join.specs.Join.{variables_by, join_clauses, within_limits, judge_linked, judge_both, judge_join}
use Rattle.join.specs.FunctionContracts.{Kept, both_in, with_right}
use Rattle.std.specs.Prelude.{Result, Ok, Err}
use Rattle.dimacs.specs.declared.Header.{Header}
use Rattle.dimacs.specs.Header.{fitting}

-- of clauses that are refused nothing is kept
pub judged_refused : {verdict : Result Header Refusal} (cs : List (List ℤ)) (ns : List ℤ) {q : Refusal} → verdict ≡ Err q → Judged verdict cs (Err q) ns
judged_refused cs ns e = record { is = sym e; kept = λ v n body f. absurd (let z : ◌≡◌ {A = ℕ} 0 1 = cc in omega arith) }

-- ---- two texts that fit

module _ (v n w m : ℕ) (links : List ℕ) (cs : List (List ℤ)) (ns : List ℤ) where
  abbrev by : Bool → Bool → Result Header Refusal
  by x y = elim x [ true ↦ Err (Link (first_bad v w links)) | false ↦ elim y [ true ↦ fitting (joined_variables v w links) (n + m) 0 | false ↦ Err (Limit 0) ] ]

  module _ (good : pair_count links ≤ first_bad v w links) where
    by_limits : (y : Bool) → within_limits (joined_variables v w links) (n + m) cs ≡ y → judge_linked v n w m links cs ≡ by false y
    by_limits y e = λ i. by (le-ltb (first_bad v w links) (pair_count links) good i) (e i)

    pub over_refused : within_limits (joined_variables v w links) (n + m) cs ≡ false → Judged (judge_linked v n w m links cs) cs (Err (Limit 0)) ns
    over_refused e = judged_refused cs ns (by_limits false e)

    pub fit_accepted : within_limits (joined_variables v w links) (n + m) cs ≡ true → {all : ℕ} → all ≡ joined_variables v w links → clauses_in (n + m) ns ≡ cs → Judged (judge_linked v n w m links cs) cs (fitting all (n + m) 0) ns
    fit_accepted e {all} ea ec = record { is = ap (λ (k : ℕ). fitting k (n + m) 0) ea ∙ sym (by_limits true e); kept = kept }
      where
        kept : (u k body : ℕ) → fitting all (n + m) 0 ≡ fitting u k body → clauses_in k ns ≡ cs
        kept u k body f = let same = (fitting_is f).1.0 in ap (λ (j : ℕ). clauses_in j ns) (sym same) ∙ ec

-- ---- a text by its verdict, and the numbers that were kept of it

pub text_kept : (text : List ℕ) (ns : List ℤ) {r : Result Header Refusal} → Judged (judge_text text) (text_clauses text) r ns → {v n body : ℕ} → r ≡ fitting v n body → 20480 ≤ length ns → Kept v n ns
text_kept text ns J {v} {n} {body} e room =
    let W = text_within text v n body (sym J.is ∙ e) in
    let k = J.kept v n body e in
    record { few = W.0; most = W.1.0; count = ap length k ∙ W.1.1.count; size = rw k W.1.1.size; each = rw k W.1.1.each; room = room }

-- ---- the right text, behind a left one that fits

module _ (v n : ℕ) (numbers : List ℤ) (right links : List ℕ) (ns : List ℤ) where
  abbrev by_right : Result Header Refusal → Result Header Refusal
  by_right x = judge_both (fitting v n 0) x links (with_right v n numbers links right)

  pub right_judged : {w m body : ℕ} {r : Result Header Refusal} (others : List ℤ) → judge_text right ≡ fitting w m body → clauses_in m others ≡ text_clauses right
      → Judged (judge_linked v n w m links (both_in v n links m numbers others)) (both_in v n links m numbers others) r ns → Judged (by_right (judge_text right)) (with_right v n numbers links right) r ns
  right_judged {w} {m} {body} {r} others e k J =
      subst (λ (x : Result Header Refusal). Judged (by_right x) (with_right v n numbers links right) r ns) (sym e)
      (subst (λ (es : List (List ℤ)). Judged (judge_linked v n w m links (clauses_in n numbers ++ renumbered_clauses v links es)) (clauses_in n numbers ++ renumbered_clauses v links es) r ns) k J)

-- ---- the left text

module _ (left right links : List ℕ) (ns : List ℤ) where
  -- by the verdict on the left text, whose clauses are cs
  abbrev clauses_by : Result Header Refusal → List (List ℤ) → List (List ℤ)
  clauses_by x cs = cs ++ renumbered_clauses (variables_by x) links (text_clauses right)

  pub left_refused : {q : Refusal} {r : Result Header Refusal} → r ≡ Err q → judge_text left ≡ Err q → Judged (judge_join left right links) (join_clauses left right links) r ns
  unfolding judge_join
  left_refused {q} {r} f e =
      subst (λ (x : Result Header Refusal). Judged (judge_join left right links) (join_clauses left right links) x ns) (sym f)
      (judged_refused (join_clauses left right links) ns (ap (λ (x : Result Header Refusal). judge_both x (judge_text right) links (join_clauses left right links)) e))

  -- where its body begins does not count
  any_body : (v n body : ℕ) (y : Result Header Refusal) (cs : List (List ℤ)) → judge_both (fitting v n 0) y links cs ≡ judge_both (fitting v n body) y links cs
  any_body v n body (Err q) cs = refl
  any_body v n body (Ok h) cs = refl

  pub left_judged : {v n body : ℕ} {r : Result Header Refusal} (numbers : List ℤ) → judge_text left ≡ fitting v n body → clauses_in n numbers ≡ text_clauses left
      → Judged (judge_both (fitting v n 0) (judge_text right) links (with_right v n numbers links right)) (with_right v n numbers links right) r ns → Judged (judge_join left right links) (join_clauses left right links) r ns
  unfolding judge_join join_clauses
  left_judged {v} {n} {body} {r} numbers e k J =
      subst (λ (x : Result Header Refusal). Judged (judge_both x (judge_text right) links (clauses_by x (text_clauses left))) (clauses_by x (text_clauses left)) r ns) (sym e)
      (subst (λ (x : Result Header Refusal). Judged x (clauses_by (fitting v n body) (text_clauses left)) r ns) (any_body v n body (judge_text right) (clauses_by (fitting v n body) (text_clauses left)))
      (subst (λ (cs : List (List ℤ)). Judged (judge_both (fitting v n 0) (judge_text right) links (clauses_by (fitting v n 0) cs)) (clauses_by (fitting v n 0) cs) r ns) k J))
