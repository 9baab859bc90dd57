-- CHANGE REQUEST 7: "Every neighbouring pair is an edge of the graph that Stamp walked", where only our calls wrote the tables. After an accepted load and any list of demand 3's calls, refused ones included, any parts of the tables lent to each and to explain:
-- if explain is accepted, the stamps that stand are those of a Stamp of the list, and every neighbouring pair of each chain is an edge of the graph that it walked (`chain_edges`). Assumes nothing.
use Prim.Native.Nat.{ℕ, ◌*◌, ◌<◌}
use native.Mathlib.Omega.{arith}
use mathlib.Core.Path.{◌≡◌, refl, sym, ap, subst, ◌∙◌}
use mathlib.Core.Bool.{true, false}
use mathlib.Core.Logic.{⊎_elim}
use mathlib.Core.List.Memᴰ
use mathlib.Core.List.{List, [], ◌∷◌, ◌++◌, Memᴰ}
use lib.ListN.{get_or}
use lib.IntN.{ℤ, pos}
use Rattle.base.proofs.Booleans.{clash}
use Rattle.literal.specs.Literals.{Literal, slot_of}
use Rattle.literal.proofs.Laws.{slot_below}
use Rattle.stamps.specs.Fresh.{parent_in, FreshStamps}
use Rattle.state.specs.declared.State.{State}
use Rattle.state.specs.declared.Verdict.{Verdict}
use Rattle.state.specs.declared.Verdict.TheVariants.{Nothing, Drop, Shorten}
use Rattle.tables.specs.Tables.{Tables}
use Rattle.tables.specs.Long.{Long}
use Rattle.tables.specs.Calls.{After}
use Rattle.shape.specs.Shape.{Shape}
use Rattle.call_lists.specs.Starts.{Started, begun}
use Rattle.stamp.specs.Stamp.{stamp_call}
use Rattle.stamp.proofs.Shaped.{fresh_shaped}
use Rattle.write.specs.Write.{AfterWrite}
use Rattle.chains.specs.declared.Ends.{Ends}
use Rattle.chains.specs.Descending.{Descends, ends, down}
use Rattle.explain.specs.Asking.{Clause}
use Rattle.explain.specs.Explain.{explain_call}
use Rattle.explain.proofs.Naming.{literal_neg, in_range_lem}
use Rattle.paper.specs.Clauses.{clause_at}
use Rattle.paper.specs.Sweeping.{Filtered, none, stays, goes}
use Rattle.paper.proofs.Accepted.{accepted}
use Rattle.paper.proofs.StampAncestors.{stamp_ancestors}
use Rattle.call_lists.specs.Lists.{Lent, lend, Step, step_on, Trail, steps_on}
use Rattle.refinement.proofs.Starting.{started_laid, start_held}
use Rattle.refinement.proofs.Demand3.{lent_fronts, back_fronts}
use Rattle.reasons.specs.Reasons.{Earliest, PairReason, DropReason, LiteralReason}
use Rattle.reasons.specs.Reasons as rule
use Rattle.reasons.specs.Explained.{Between, LiteralsShown, ExplainedAs}
use Rattle.reasons.specs.Explained as shown
use Rattle.reasons.specs.LastStamp.{Linked, LastStamp, Walked, EdgesOnly}
use Rattle.reasons.proofs.Asked.{clause_asked, clause_vars}
use Rattle.reasons.proofs.Cases.{explain_asked}
use Rattle.reasons.proofs.LastStamp.{last_stamp}

-- ---- a chain that goes down along the parents

module _ {v : ℕ} {times : List ℕ} {links : List ℤ} (F : FreshStamps v times links) (R : ℤ → ℤ → Type 0) (step : (l : ℤ) → Literal v l → (parent_in links (slot_of l) ≡ l → ⊥) → R (parent_in links (slot_of l)) l) where
  -- one literal more in front
  link : {q p l : ℤ} {c : List ℤ} → R p l → Descends links q l c → Linked R c → Linked R (p ∷ c)
  link r ends k = (r, k)
  link r (down e d D) k = (r, k)

  descends_linked : {q p : ℤ} {c : List ℤ} → Literal v q → Descends links q p c → Literal v p × Linked R c
  descends_linked Q ends = (Q, tt)
  descends_linked Q (down {p} {l} e d D) =
      let r = descends_linked Q D in
      let above = F.parent_literal (slot_of l) (slot_below l v r.0.above r.0.within) in
      (subst (Literal v) e above, link (subst (λ (x : ℤ). R x l) e (step l r.0 (λ k. d (sym e ∙ k)))) D r.1)

-- ---- the lower end of a chain is a literal

earliest_in : {P : ℤ → Type 0} {C : List ℤ} {m : ℤ} → Earliest P C m → Memᴰ m C
earliest_in {m = m} E = subst (Memᴰ m) (sym E.clause) (middle E.before)
  where
    middle : (xs : List ℤ) → Memᴰ m (xs ++ (m ∷ E.behind))
    middle [] = Memᴰ.head refl
    middle (x ∷ xs) = Memᴰ.tail (middle xs)

filtered_in : {P : ℤ → Type 0} {C D : List ℤ} {x : ℤ} → Filtered P C D → Memᴰ x D → Memᴰ x C
filtered_in none m = m
filtered_in (stays p F) m = ⊎_elim (λ e. Memᴰ.head e) (λ k. Memᴰ.tail (filtered_in F k)) (Memᴰ.cases_cons m)
filtered_in (goes d F) m = Memᴰ.tail (filtered_in F m)

module _ (t : Tables) {C : List ℤ} (K : Clause t.times t.links C) where
  pair_bottom : (a b : ℤ) (e : Ends) → Literal K.vars a → Literal K.vars b → PairReason t a b e → Literal K.vars e.bottom
  pair_bottom a b e A B (rule.first is s) = subst (λ (x : Ends). Literal K.vars x.bottom) (sym is) B
  pair_bottom a b e A B (rule.second d is s) = subst (λ (x : Ends). Literal K.vars x.bottom) (sym is) A

  drop_bottom : (e : Ends) → DropReason t C e → Literal K.vars e.bottom
  drop_bottom e (rule.two a b is P) =
      pair_bottom a b e (in_range_lem K a (subst (Memᴰ a) (sym is) (Memᴰ.head refl))) (in_range_lem K b (subst (Memᴰ b) (sym is) (Memᴰ.tail (Memᴰ.head refl)))) P
  drop_bottom e (rule.more three L) = in_range_lem K e.bottom (earliest_in L.bottom)

  literal_bottom : (l : ℤ) (e : Ends) → Memᴰ l C → LiteralReason t C l e → Literal K.vars e.bottom
  literal_bottom l e i (rule.first top E) = in_range_lem K e.bottom (earliest_in E)
  literal_bottom l e i (rule.second m S is) = subst (λ (x : Ends). Literal K.vars x.bottom) (sym is) (literal_neg (in_range_lem K l i))

  -- so if a step to a parent is in R, the neighbours in each chain are
  module _ (R : ℤ → ℤ → Type 0) (step : (l : ℤ) → Literal K.vars l → (parent_in t.links (slot_of l) ≡ l → ⊥) → R (parent_in t.links (slot_of l)) l) where
    chain_linked : {e : Ends} {c : List ℤ} → Literal K.vars e.bottom → Between t e c → Linked R c
    chain_linked B D = (descends_linked K.stamped.fresh R step B D).1

    literals_linked : {ls : List ℤ} {cs : List (List ℤ)} → ((l : ℤ) → Memᴰ l ls → Memᴰ l C) → LiteralsShown t C ls cs → (c : List ℤ) → Memᴰ c cs → Linked R c
    literals_linked inside shown.none c m = absurd (Memᴰ.not-nil m)
    literals_linked inside (shown.more {l} {c = d} e r D more) c m =
        ⊎_elim
        (λ (q : c ≡ d). subst (Linked R) (sym q) (chain_linked (literal_bottom l e (inside l (Memᴰ.head refl)) r) D))
        (λ k. literals_linked (λ x i. inside x (Memᴰ.tail i)) more c k)
        (Memᴰ.cases_cons m)

    all_linked : (number : ℕ) (st : State) (out : List ℕ) {a : AfterWrite} (E : ExplainedAs number t st out a) → clause_at t E.named.at ≡ C → (c : List ℤ) → Memᴰ c E.chains → Linked R c
    all_linked number st out E is c m = by E.verdict refl
      where
        by : (v : Verdict) → E.verdict ≡ v → Linked R c
        by Nothing e = absurd (Memᴰ.not-nil (subst (Memᴰ c) (E.nothing_shown e).1 m))
        by Drop e =
            let D = (E.drop_shown e).1 in
            ⊎_elim
            (λ (q : c ≡ D.chain). subst (Linked R) (sym q) (chain_linked (drop_bottom D.ends (subst (λ (X : List ℤ). DropReason t X D.ends) is D.reason)) D.follows))
            (λ k. absurd (Memᴰ.not-nil k))
            (Memᴰ.cases_cons (subst (Memᴰ c) D.only m))
        by Shorten e =
            let T = E.taken_shown e in
            literals_linked (λ l i. subst (Memᴰ l) is (filtered_in T.missing i)) (subst (λ (X : List ℤ). LiteralsShown t X T.taken E.chains) is T.shown) c m

-- ---- the stamps of a Stamp

-- a step to a parent, by the stamps that a Stamp of the list left, is an edge of the graph that it walked
module _ {ss : List Step} {t : Tables} {st : State} {now : Tables} {state : State} (W : LastStamp ss t st now state) (lent : Lent) (S : Shape (lend lent now) state) where
  abbrev walked : Tables
  walked = lend W.lent (steps_on W.before t st).tables

  abbrev then : State
  then = (steps_on W.before t st).state

  abbrev made : Tables
  made = (stamp_call W.order walked then).tables

  taken : (stamp_call W.order walked then).reply.number ≡ 0
  unfolding step_on
  taken = W.accepted

  made_long : Long made
  made_long = let A = accepted W.order walked then taken in subst (λ (a : After). Long a.tables) (sym A.answer) (fresh_shaped A.known).long

  -- the links are those that it wrote
  links_same : (k : ℕ) → k < 4096 → get_or (lend lent now).links k (pos 0) ≡ get_or made.links k (pos 0)
  unfolding step_on
  links_same k h =
      (lent_fronts lent now S.long).links k h
      ∙ ap (λ (l : List ℤ). get_or l k (pos 0)) W.links
      ∙ (back_fronts W.lent (steps_on W.before t st).tables made made_long).links k h

  parent_edge : (l : ℤ) → Literal state.v l → (parent_in (lend lent now).links (slot_of l) ≡ l → ⊥) → Walked W (parent_in (lend lent now).links (slot_of l)) l
  parent_edge l L d =
      let same = links_same (2 * slot_of l) (omega (arith, slot_below l state.v L.above L.within, S.v_limit)) in
      let A = stamp_ancestors W.order walked then taken in
      subst (λ (p : ℤ). Walked W p l) (sym same) ((A.parents l (subst (λ (v : ℕ). Literal v l) W.variables L)).1 (λ e. d (same ∙ e)))

-- ---- the theorem

module _ (b : Started) (ss : List Step) where
  abbrev loaded : After
  loaded = begun b

  abbrev now : Trail
  now = steps_on ss loaded.tables loaded.state

  not_fresh : loaded.state.fresh ≡ false
  not_fresh = ap (λ (a : After). a.state.fresh) (started_laid b).is

  pub stamps_walked : now.state.fresh ≡ true → LastStamp ss loaded.tables loaded.state now.tables now.state
  stamps_walked fresh = ⊎_elim (λ W. W) (λ K. clash K.fresh not_fresh) (last_stamp ss loaded.tables loaded.state (start_held b) fresh)

  pub chain_edges : (lent : Lent) (number : ℕ) (out : List ℕ) → (explain_call number (lend lent now.tables) now.state out).reply.number ≡ 0
      → (E : ExplainedAs number (lend lent now.tables) now.state out (explain_call number (lend lent now.tables) now.state out))
      → EdgesOnly ss loaded.tables loaded.state now.tables now.state E.chains
  chain_edges lent number out taken-so E =
      let A = explain_asked number (lend lent now.tables) now.state out taken-so in
      let W = stamps_walked A.fresh in
      let K = clause_asked A.entered.shape A.fresh E.named.at E.named.within in
      let vars = clause_vars A.entered.shape A.fresh E.named.at E.named.within in
      record { walk = W; edges = all_linked (lend lent now.tables) K (Walked W) (λ l M. parent_edge W lent A.entered.shape l (subst (λ (x : ℕ). Literal x l) vars M)) number now.state out E refl }
