-- CHANGE REQUEST 7, one call. On any tables with any state, whoever wrote them, for any number and any output: if explain is accepted, its verdict and the literals taken out are those of a Sweep's visit to the clause, the ends of each chain are the two literals that the rule names,
-- and each chain goes down from the one to the other along the parents (`explain_right`). So on any tables that keep the shape rule the climb ends. Assumes nothing.
use Rattle.std.specs.Prelude.{Ok}
use Prim.Native.Nat.{ℕ, ◌≤◌, ◌<◌}
use native.Mathlib.Omega.{arith}
use mathlib.Core.Path.{◌≡◌, refl, sym, ap, subst, ◌∙◌}
use mathlib.Core.Bool.{not}
use mathlib.Core.Logic.{⊎_elim}
use mathlib.Core.List.{List, [], ◌∷◌, ◌++◌, map, Memᴰ, Sublistᴰ}
use lib.ListN.{length, drop}
use lib.IntN.{ℤ, neg_ℤ}
use borrow.Author.Tests.{not-true, not-false}
use Rattle.base.specs.Lists.{filter}
use Rattle.base.proofs.Booleans.{clash}
use Rattle.base.proofs.Lists.{in_filter, sub_full}
use Rattle.literal.specs.Literals.{slot_of}
use Rattle.walk.specs.Walk.{Stamps}
use Rattle.stamp_columns.specs.Columns.{columns}
use Rattle.stamp_columns.proofs.Columns.{to_times, to_columns}
use Rattle.hidden.specs.Hidden.{holds, unhidden}
use Rattle.hidden.proofs.Intervals.{holds_true, true_holds}
use Rattle.state.specs.Answers.{verdict_number}
use Rattle.state.specs.declared.State.{State}
use Rattle.state.specs.declared.Verdict.{Verdict}
use Rattle.state.specs.declared.Verdict.TheVariants.{Nothing, Drop, Shorten}
use Rattle.state.specs.declared.Answer.TheVariants.{Explained}
use Rattle.tables.specs.Tables.{Tables}
use Rattle.tables.specs.Fates.{Fate, left, dropped}
use Rattle.write.specs.Write.{AfterWrite, after_write}
use Rattle.chains.specs.declared.Ends.{Ends}
use Rattle.chains.specs.Chains.{ends, chain_of, chains_of}
use Rattle.chains.specs.Climbing as climbing
use Rattle.chains.proofs.Descending.{chain_descends}
use Rattle.sweep_visits.specs.Clause.{sweep_clause}
use Rattle.sweep_visits.proofs.Fates.{sweep_cases}
use Rattle.explain.specs.Reasons.{Reasons, reasons, drop_ends, literal_ends, left_out, taken_out, reasons_by}
use Rattle.explain.specs.Asking.{Clause, LeftOf}
use Rattle.explain.specs.Explain.{chains_text, explain_call}
use Rattle.explain.proofs.Leaving.{filter_passes, left_out_filter, left_out_length, sweep_leaves}
use Rattle.explain.proofs.Firsts.{First}
use Rattle.explain.proofs.Naming.{in_range_lem, Long, Twos, ByFirst, BySecond, literal_named}
use Rattle.explain.proofs.Swept.{swept_left}
use Rattle.explain.proofs.Named.{DropNamed, two, more, drop_named, drop_between, literal_between}
use Rattle.paper.specs.Records.{Holds}
use Rattle.paper.specs.Clauses.{clause_at, flag_at}
use Rattle.paper.specs.Sweeping.{Filtered, ToNoOther, swept_at}
use Rattle.paper.proofs.Accepted.{refusal_above}
use Rattle.paper.proofs.Filters.{filter_left, unhidden_left}
use Rattle.reasons.specs.Reasons.{Earliest, LongReason, PairReason, DropReason, LiteralReason}
use Rattle.reasons.specs.Reasons as rule
use Rattle.reasons.specs.Explained.{Named, Between, LiteralsShown, ExplainedAs}
use Rattle.reasons.specs.Explained as shown
use Rattle.reasons.specs.Refused.{reasons_at}
use Rattle.reasons.proofs.Asked.{clause_asked}
use Rattle.reasons.proofs.Cases.{Asked, explain_cases}
use Rattle.reasons.proofs.Visited.{visit_kept, visit_left, visit_dropped}

-- ---- the reasons

earliest : {P Q : ℤ → Type 0} {C : List ℤ} {x : ℤ} → ((y : ℤ) → P y → Q y) → ((y : ℤ) → Q y → P y) → First P C x → Earliest Q C x
earliest to from f = record { before = f.before; behind = f.behind; clause = f.split; has = to _ f.has; none = λ y m q. f.none y m (from y q) }

module _ (t : Tables) {C : List ℤ} (K : Clause t.times t.links C) where
  abbrev σ : Stamps
  σ = columns t.times t.links

  -- a chain can be climbed
  follows : {e : Ends} → climbing.Between K.vars t.times e → Between t e (chain_of t.links e)
  follows b = chain_descends (record { times = t.times; vars = K.vars; stamped = K.stamped; between = b })

  pair_reason : (a b : ℤ) {e : Ends} → Twos t.times t.links a b e → PairReason t a b e
  pair_reason a b T =
      ⊎_elim
      (λ r. rule.first r.1 (record { held = r.0.0; no_parent = r.0.1 }))
      (λ r. rule.second (λ k. r.0 (k.held, k.no_parent)) r.2 (record { held = r.1.0; no_parent = r.1.1 }))
      T

  long_reason : {e : Ends} (L : Long K) → e ≡ ends (neg_ℤ L.a) L.b → LongReason t C e
  long_reason {e} L is = subst (LongReason t C) (sym is) (record {
    a = L.a;
    a_earliest = earliest (λ y h. record { b = h.0; b_in = h.1; held = h.2 }) (λ y h. (h.b, h.b_in, h.held)) L.a_first;
    top = refl;
    bottom = earliest (λ y h. h) (λ y h. h) L.b_first;
  })

  drop_reason : sweep_clause σ C ≡ dropped → DropReason t C (drop_ends σ C)
  drop_reason e = by (drop_named K e)
    where
      by : DropNamed K → DropReason t C (drop_ends σ C)
      by (two {a} {b} is T) = rule.two a b is (pair_reason a b T)
      by (more three L is) = rule.more three (long_reason L is)

  -- what the first rule leaves
  rest_left : Filtered (ToNoOther (λ x y. Holds t x y) C) C (unhidden slot_of (holds σ) C)
  rest_left = unhidden_left K.vars (λ x y. Holds t x y) (holds σ) C (in_range_lem K)
      (λ l m i j. (λ h. to_times t.times t.links (slot_of l) (slot_of m) (holds_true σ (slot_of l) (slot_of m) h), λ h. true_holds σ (slot_of l) (slot_of m) (to_columns t.times t.links (slot_of l) (slot_of m) h)))

  first_reason : (l : ℤ) → ByFirst K l → LiteralReason t C l (literal_ends σ C l)
  first_reason l r = subst (LiteralReason t C l) (sym r.is) (rule.first refl (earliest (λ y h. record { other = h.0; held = h.1 }) (λ y h. (h.other, h.held)) r.first))

  second_reason : (l : ℤ) → BySecond K l → LiteralReason t C l (literal_ends σ C l)
  second_reason l r = rule.second r.m (record {
    stays = r.free;
    rest = unhidden slot_of (holds σ) C;
    left = rest_left;
    m_earliest = earliest (λ y h. record { other = h.0; held = h.1 }) (λ y h. (h.other, h.held)) r.first;
  }) r.is

  literal_reason : (D : List ℤ) → sweep_clause σ C ≡ left D → (l : ℤ) → Memᴰ l (left_out C D) → LiteralReason t C l (literal_ends σ C l)
  literal_reason D e l m = ⊎_elim (first_reason l) (second_reason l) (literal_named K l (subst (λ (E : List ℤ). Memᴰ l (left_out C E)) (swept_left σ C D e) m)).1

  literals_shown : (ls : List ℤ) → ((l : ℤ) → Memᴰ l ls → LiteralReason t C l (literal_ends σ C l) × climbing.Between K.vars t.times (literal_ends σ C l)) → LiteralsShown t C ls (chains_of t.links (map (literal_ends σ C) ls))
  literals_shown [] each = shown.none
  literals_shown (l ∷ ls) each =
      let r = each l (Memᴰ.head refl) in
      shown.more (literal_ends σ C l) r.0 (follows r.1) (literals_shown ls (λ m i. each m (Memᴰ.tail i)))

-- ---- what is left, and what is taken out

-- the literals taken out are those that are not left
missing_out : {C D : List ℤ} → LeftOf C D → Filtered (λ l. Memᴰ l D → ⊥) C (left_out C D)
missing_out {C} {D} L =
    subst (λ (E : List ℤ). Filtered (λ l. Memᴰ l E → ⊥) C (left_out C E)) (sym L.is)
    (subst (Filtered (λ l. Memᴰ l (filter L.stays C) → ⊥) C) (sym (left_out_filter L.stays C))
    (filter_left (λ l. Memᴰ l (filter L.stays C) → ⊥) (λ l. not (L.stays l)) C
    (λ l i. (λ e m. clash (filter_passes L.stays C m) (not-true (L.stays l) e), λ e h. h (in_filter L.stays C i (not-false (L.stays l) e))))))

-- ---- the call

-- another verdict
other : {A : Type 0} {v w : Verdict} → (verdict_number v ≡ verdict_number w → ⊥) → v ≡ w → A
other d e = absurd (d (ap verdict_number e))

module _ {number : ℕ} {t : Tables} {st : State} (out : List ℕ) (A : Asked t st) (N : Named number t st) where
  abbrev i : ℕ
  i = N.at

  abbrev C : List ℤ
  C = clause_at t i

  abbrev ρ : Stamps
  ρ = columns t.times t.links

  -- the clause after the visit
  abbrev flag : ℕ
  flag = flag_at (swept_at t i) i

  abbrev now : List ℤ
  now = clause_at (swept_at t i) i

  K : Clause t.times t.links C
  K = clause_asked A.entered.shape A.fresh i N.within

  -- what is said where these are the reasons
  abbrev Made : Reasons → Type 0
  Made r = length (chains_text t.links r) ≤ length out
      → ExplainedAs number t st out (after_write (Ok (Explained r.verdict r.out (length (chains_text t.links r)))) (chains_text t.links r ++ drop (length (chains_text t.links r)) out))

  made_nothing : flag ≡ 1 → now ≡ C → Made (reasons Nothing 0 [])
  made_nothing stands same fits = record {
    named = N;
    verdict = Nothing;
    count = 0;
    chains = [];
    reply = refl;
    fits = fits;
    written = refl;
    judges = record {
      drops = (other (λ k. omega arith), λ e. absurd (omega (arith, e, stands)));
      shortens = (other (λ k. omega arith), λ e. absurd (omega (arith, e.1, ap length same)));
      leaves = (λ e. (stands, same), λ e. refl);
    };
    drop_shown = other (λ k. omega arith);
    taken_shown = other (λ k. omega arith);
    nothing_shown = λ e. (refl, refl);
  }

  made_drop : flag ≡ 0 → sweep_clause ρ C ≡ dropped → Made (reasons Drop 0 (drop_ends ρ C ∷ []))
  made_drop gone e fits = record {
    named = N;
    verdict = Drop;
    count = 0;
    chains = chain_of t.links (drop_ends ρ C) ∷ [];
    reply = refl;
    fits = fits;
    written = refl;
    judges = record {
      drops = (λ q. gone, λ q. refl);
      shortens = (other (λ k. omega arith), λ q. absurd (omega (arith, q.0, gone)));
      leaves = (other (λ k. omega arith), λ q. absurd (omega (arith, q.0, gone)));
    };
    drop_shown = λ q. (refl, record { ends = drop_ends ρ C; reason = drop_reason t K e; chain = chain_of t.links (drop_ends ρ C); follows = follows t K (drop_between K e); only = refl });
    taken_shown = other (λ k. omega arith);
    nothing_shown = other (λ k. omega arith);
  }

  made_left : (D : List ℤ) → Sublistᴰ D C → sweep_clause ρ C ≡ left D → (ls : List ℤ) → left_out C D ≡ ls → Made (taken_out ρ C ls)
  made_left D part e [] none =
      let v = visit_left A.entered.shape i N.within N.stands D part e in
      made_nothing v.0 (v.1 ∙ sub_full part (omega (arith, left_out_length (sweep_leaves ρ C D e), ap length none)))
  made_left D part e (l ∷ ls) some = λ fits.
      let v = visit_left A.entered.shape i N.within N.stands D part e in
      let L = sweep_leaves ρ C D e in
      let less : length now < length C = omega (arith, ap length v.1, left_out_length L, ap length some) in
      record {
        named = N;
        verdict = Shorten;
        count = length (l ∷ ls);
        chains = chains_of t.links (map (literal_ends ρ C) (l ∷ ls));
        reply = refl;
        fits = fits;
        written = refl;
        judges = record {
          drops = (other (λ k. omega arith), λ q. absurd (omega (arith, q, v.0)));
          shortens = (λ q. (v.0, less), λ q. refl);
          leaves = (other (λ k. omega arith), λ q. absurd (omega (arith, less, ap length q.1)));
        };
        drop_shown = other (λ k. omega arith);
        taken_shown = λ q. record {
          taken = l ∷ ls;
          missing = subst (λ (E : List ℤ). Filtered (λ x. Memᴰ x E → ⊥) C (l ∷ ls)) (sym v.1) (subst (Filtered (λ x. Memᴰ x D → ⊥) C) some (missing_out L));
          number = refl;
          shown = literals_shown t K (l ∷ ls) (λ m k. let j = subst (Memᴰ m) (sym some) k in (literal_reason t K D e m j, literal_between K D e m j));
        };
        nothing_shown = other (λ k. omega arith);
      }

  made_all : Made (reasons_at t i)
  made_all =
      sweep_cases ρ C (λ (x : Fate). sweep_clause ρ C ≡ x → Made (reasons_by x ρ C))
      (λ short e. let v = visit_kept A.entered.shape i N.within N.stands e in made_nothing v.0 v.1)
      (λ D part e. made_left D part e (left_out C D) refl)
      (λ e. made_drop (visit_dropped A.entered.shape i N.within N.stands e) e)
      refl

-- THE THEOREM
pub explain_right : (number : ℕ) (t : Tables) (st : State) (out : List ℕ) → (explain_call number t st out).reply.number ≡ 0 → ExplainedAs number t st out (explain_call number t st out)
explain_right number t st out =
    explain_cases number t st out (λ (a : AfterWrite). a.reply.number ≡ 0 → ExplainedAs number t st out a)
    (λ r e taken. absurd (refusal_above r taken))
    (λ g e taken. absurd (omega arith))
    (λ A none taken. absurd (omega arith))
    (λ A N short taken. absurd (omega arith))
    (λ A N fits taken. made_all out A N fits)
