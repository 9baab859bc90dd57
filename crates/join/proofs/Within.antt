-- A join that is accepted: both texts fit, the links are right, and its clauses are within the limits, as those of a text that fits. Assumes nothing.
use Prim.Native.Nat.{ℕ, ◌+◌, ◌≤◌}
use native.Mathlib.Omega.{arith}
use mathlib.Core.Path.{◌≡◌, refl, sym, ap, subst, ◌∙◌}
use mathlib.Core.Bool.{Bool, true, false, ◌&&◌}
use mathlib.Core.List.{List, ◌++◌, map}
use lib.ListN.{length, length-map, length-append}
use lib.Dec.{leb, ltb}
use lib.IntN.{ℤ}
use borrow.Author.Tests.{leb-true, ltb-false}
use Rattle.base.proofs.Booleans.{and_left, and_right}
use Rattle.literal.specs.Ranged.{InClauses, total}
use Rattle.literal.proofs.Ranged.{in_all, in_append}
use Rattle.state.specs.declared.Refusal.TheVariants.{Limit, Link}
use Rattle.dimacs.specs.Text.{judge_text, text_clauses}
use Rattle.dimacs.proofs.Judge.{fitting_is}
use Rattle.dimacs.proofs.Accepted.{Within, text_within}
use Rattle.join.specs.Links.{pair_count, first_bad, joined_variables, renumbered, renumbered_clauses}
use Rattle.join.specs.Join.{variables_by, join_clauses, within_limits, judge_linked, judge_both, judge_join}
use Rattle.join.proofs.RightNumbers.{Linked, links_right, renumbered_in}
use Rattle.std.specs.Prelude.{Result, Ok, Err}
use Rattle.dimacs.specs.declared.Header.{Header}
use Rattle.state.specs.declared.Refusal.{Refusal}
use Rattle.dimacs.specs.Header.{fitting}

-- ---- a join that is accepted

pub limits : (v n : ℕ) (cs : List (List ℤ)) → within_limits v n cs ≡ true → (v ≤ 1024) × ((n ≤ 4096) × (total cs ≤ 16384))
limits v n cs e =
    let r = and_right (leb v 1024) (leb n 4096 && leb (total cs) 16384) e in
    (leb-true v 1024 (and_left (leb v 1024) (leb n 4096 && leb (total cs) 16384) e), (leb-true n 4096 (and_left (leb n 4096) (leb (total cs) 16384) r), leb-true (total cs) 16384 (and_right (leb n 4096) (leb (total cs) 16384) r)))

pub record Joined (left right links : List ℕ) (u k : ℕ) : Type 0 where
  pub v : ℕ
  pub n : ℕ
  pub left_body : ℕ
  pub w : ℕ
  pub m : ℕ
  pub right_body : ℕ
  pub left_fits : judge_text left ≡ fitting v n left_body
  pub right_fits : judge_text right ≡ fitting w m right_body
  pub linked : Linked v w links
  pub variables : u ≡ joined_variables v w links
  pub number : k ≡ n + m
  pub few : u ≤ 1024
  pub many : k ≤ 4096
  pub fits : total (join_clauses left right links) ≤ 16384

module _ (left right links : List ℕ) (u k body : ℕ) where
  pub join_joined : judge_join left right links ≡ fitting u k body → Joined left right links u k
  unfolding judge_join
  join_joined e = both (judge_text left) refl (judge_text right) refl e
    where
      cs : List (List ℤ)
      cs = join_clauses left right links

      fit : (v n a w m b : ℕ) → judge_text left ≡ fitting v n a → judge_text right ≡ fitting w m b → judge_linked v n w m links cs ≡ fitting u k body → Joined left right links u k
      fit v n a w m b p q e = bad (ltb (first_bad v w links) (pair_count links)) refl e
        where
          last : (x : Bool) → within_limits (joined_variables v w links) (n + m) cs ≡ x → pair_count links ≤ first_bad v w links
              → elim x as (λ y. Result Header Refusal) [ true ↦ fitting (joined_variables v w links) (n + m) 0 | false ↦ Err (Limit 0) ] ≡ fitting u k body → Joined left right links u k
          last true l h e =
              let eu = (fitting_is e).0 in
              let ek = (fitting_is e).1.0 in
              record {
                v = v;
                n = n;
                left_body = a;
                w = w;
                m = m;
                right_body = b;
                left_fits = p;
                right_fits = q;
                linked = links_right v w links h;
                variables = sym eu;
                number = sym ek;
                few = omega (arith, eu, (limits (joined_variables v w links) (n + m) cs l).0);
                many = omega (arith, ek, (limits (joined_variables v w links) (n + m) cs l).1.0);
                fits = (limits (joined_variables v w links) (n + m) cs l).1.1;
              }
          last false l h e = absurd (let z : ◌≡◌ {A = ℕ} 0 1 = cc in omega arith)

          bad : (x : Bool) → ltb (first_bad v w links) (pair_count links) ≡ x
              → elim x as (λ y. Result Header Refusal) [
                | true ↦ Err (Link (first_bad v w links))
                | false ↦ elim (within_limits (joined_variables v w links) (n + m) cs) [ true ↦ fitting (joined_variables v w links) (n + m) 0 | false ↦ Err (Limit 0) ]
              ] ≡ fitting u k body → Joined left right links u k
          bad true h e = absurd (let z : ◌≡◌ {A = ℕ} 0 1 = cc in omega arith)
          bad false h e = last (within_limits (joined_variables v w links) (n + m) cs) refl (ltb-false _ _ h) e

      both : (x : Result Header Refusal) → judge_text left ≡ x → (y : Result Header Refusal) → judge_text right ≡ y → judge_both x y links cs ≡ fitting u k body → Joined left right links u k
      both (Err r) p y q e = absurd (let z : ◌≡◌ {A = ℕ} 0 1 = cc in omega arith)
      both (Ok h) p (Err r) q e = absurd (let z : ◌≡◌ {A = ℕ} 0 1 = cc in omega arith)
      both (Ok h) p (Ok g) q e = fit h.v h.n h.body g.v g.n g.body p q e

-- the clauses of an accepted join, by the verdict on its left text
pub clauses_are : {left right links : List ℕ} {u k : ℕ} (J : Joined left right links u k) → join_clauses left right links ≡ text_clauses left ++ renumbered_clauses J.v links (text_clauses right)
unfolding join_clauses
clauses_are {left} {right} {links} J = ap (λ (x : Result Header Refusal). text_clauses left ++ renumbered_clauses (variables_by x) links (text_clauses right)) J.left_fits

-- THE LAW: as `text_within` of a text
pub join_within : (left right links : List ℕ) (u k body : ℕ) → judge_join left right links ≡ fitting u k body → (u ≤ 1024) × ((k ≤ 4096) × Within u k 16384 (join_clauses left right links))
join_within left right links u k body e =
    let J = join_joined left right links u k body e in
    let A = (text_within left J.v J.n J.left_body J.left_fits).1.1 in
    let B = (text_within right J.w J.m J.right_body J.right_fits).1.1 in
    let ds : List (List ℤ) = renumbered_clauses J.v links (text_clauses right) in (
      J.few,
      (
        J.many,
        record {
          count = ap length (clauses_are J) ∙ omega (arith, length-append (text_clauses left) ds, length-map (text_clauses right) (map (renumbered J.v links)), A.count, B.count, J.number);
          size = J.fits;
          each = subst (λ (x : ℕ). InClauses x (join_clauses left right links)) (sym J.variables) (rw (clauses_are J) (in_append (joined_variables J.v J.w links) (text_clauses left) ds (in_all J.v (joined_variables J.v J.w links) (text_clauses left) (omega arith) A.each) (renumbered_in J.v J.w links J.linked (text_clauses right) B.each)));
        },
      ),
    )
