-- What one walk adds to the stamps, over any graph: the new intervals come after the old, are nested or apart, and hang under their parents.
-- Assumes nothing.
use Prim.Native.Nat.{ℕ, zero, suc, ◌+◌, ◌≤◌, ◌<◌}
use native.Mathlib.Nat.{le_refl, le_trans}
use native.Mathlib.Omega.{arith}
use mathlib.Core.Path.{◌≡◌, refl, sym, ap, subst, ◌∙◌}
use mathlib.Core.Logic.{◌⊎◌, inl, inr, ⊎_elim, ⊎_map}
use mathlib.Core.List.Memᴰ
use mathlib.Core.List.{List, [], ◌∷◌, Memᴰ}
use lib.ListN.{length, length-set}
use lib.Seq.{get_or-set_same, get_or-set_other}
use Rattle.base.specs.Decide.{same_or, le_or, zero_or}
use Rattle.walk.specs.Walk.{Stamps, arrive, leave, edge, edges, enters, fresh}
use Rattle.walk.specs.Forest.{discovery_at, finish_at, parent_at, start_at, Holds, Parted, Reach, here, on}
use Rattle.walk.proofs.Run.{Less, less_refl, less_trans, edge_new, edge_old, enters_less, fresh_set}

pub reach_from : {adj : ℕ → List ℕ} {a b c : ℕ} → Memᴰ b (adj a) → Reach adj b c → Reach adj a c
reach_from m here = on here m
reach_from m (on r k) = on (reach_from m r) k

-- q is entered by the walk from σ to σ'
abbrev New : Stamps → Stamps → ℕ → Type 0
New σ σ' q = (discovery_at σ q ≡ 0) × (0 < discovery_at σ' q)

-- q hangs under u, which the same walk entered
pub record Hung (adj : ℕ → List ℕ) (σ σ' : Stamps) (q u : ℕ) : Type 0 where
  pub parent : parent_at σ' q ≡ u
  pub new : New σ σ' u
  pub edge : Memᴰ q (adj u)
  pub begins : discovery_at σ' u < discovery_at σ' q
  pub ends : finish_at σ' q < finish_at σ' u
  pub narrowest : (v : ℕ) → New σ σ' v → (v ≡ q → ⊥) → Holds σ' v q → Holds σ' v u

-- q was entered from outside, from p
pub record Led (Ok : ℕ → Type 0) (p : ℕ) (σ σ' : Stamps) (q : ℕ) : Type 0 where
  pub ok : Ok q
  pub parent : parent_at σ' q ≡ p
  pub widest : (v : ℕ) → New σ σ' v → (v ≡ q → ⊥) → Holds σ' v q → ⊥

pub record Added (adj : ℕ → List ℕ) (Ok : ℕ → Type 0) (p r : ℕ) (σ σ' : Stamps) (q : ℕ) : Type 0 where
  pub after : σ.time < discovery_at σ' q
  pub spans : discovery_at σ' q < finish_at σ' q
  pub past : finish_at σ' q ≤ σ'.time
  pub start : start_at σ' q ≡ r
  pub closed : (c : ℕ) → Memᴰ c (adj q) → (0 < discovery_at σ' c) × (discovery_at σ' c < finish_at σ' q)
  pub reach : (o : ℕ) × Ok o × Reach adj o q
  pub came : Led Ok p σ σ' q ⊎ ((u : ℕ) × Hung adj σ σ' q u)

-- a walk from σ to σ' that enters slots which are Ok from p, in the tree of r
pub record Walked (adj : ℕ → List ℕ) (Ok : ℕ → Type 0) (p r : ℕ) (σ σ' : Stamps) : Type 0 where
  pub later : σ.time ≤ σ'.time
  pub discovery_kept : (q : ℕ) → 0 < discovery_at σ q → discovery_at σ' q ≡ discovery_at σ q
  pub finishes_kept : (q : ℕ) → 0 < discovery_at σ q → finish_at σ' q ≡ finish_at σ q
  pub parents_kept : (q : ℕ) → 0 < discovery_at σ q → parent_at σ' q ≡ parent_at σ q
  pub starts_kept : (q : ℕ) → 0 < discovery_at σ q → start_at σ' q ≡ start_at σ q
  pub added : (q : ℕ) → New σ σ' q → Added adj Ok p r σ σ' q
  pub parted : (q u : ℕ) → New σ σ' q → New σ σ' u → (q ≡ u → ⊥) → Parted σ' q u
  pub hit : (t : ℕ) → σ.time < t → t ≤ σ'.time → (q : ℕ) × (New σ σ' q) × ((discovery_at σ' q ≡ t) ⊎ (finish_at σ' q ≡ t))

not_both : {A : Type 0} (k : ℕ) → k ≡ 0 → 0 < k → A
not_both k e lt = absurd (omega arith)

pub walked_refl : (adj : ℕ → List ℕ) (Ok : ℕ → Type 0) (p r : ℕ) (σ : Stamps) → Walked adj Ok p r σ σ
walked_refl adj Ok p r σ =
    record {
      later = le_refl _;
      discovery_kept = λ q e. refl;
      finishes_kept = λ q e. refl;
      parents_kept = λ q e. refl;
      starts_kept = λ q e. refl;
      added = λ q n. not_both (discovery_at σ q) n.0 n.1;
      parted = λ q u n m d. not_both (discovery_at σ q) n.0 n.1;
      hit = λ t a b. absurd (omega arith);
    }

-- no discovery is past the time
abbrev pub Timely : Stamps → Type 0
Timely σ = (q : ℕ) → discovery_at σ q ≤ σ.time

pub timely_walked : (adj : ℕ → List ℕ) (Ok : ℕ → Type 0) (p r : ℕ) (σ σ' : Stamps) → Walked adj Ok p r σ σ' → Timely σ → Timely σ'
timely_walked adj Ok p r σ σ' w t q =
    ⊎_elim
    (λ (z : discovery_at σ q ≡ 0). ⊎_elim (λ (y : discovery_at σ' q ≡ 0). omega arith) (λ (y : 0 < discovery_at σ' q). let a = w.added q (z, y) in omega (arith, a.spans, a.past)) (zero_or (discovery_at σ' q)))
    (λ (e : 0 < discovery_at σ q). omega (arith, w.discovery_kept q e, t q, w.later))
    (zero_or (discovery_at σ q))

-- ---- one walk after another

module _ (adj : ℕ → List ℕ) (Ok : ℕ → Type 0) (p r : ℕ) (σ σ₁ σ₂ : Stamps) (a : Walked adj Ok p r σ σ₁) (b : Walked adj Ok p r σ₁ σ₂) where
  -- entered by the first, or by the second
  First : ℕ → Type 0
  First q = (New σ σ₁ q) × (discovery_at σ₂ q ≡ discovery_at σ₁ q) × (finish_at σ₂ q ≡ finish_at σ₁ q) × (finish_at σ₁ q ≤ σ₁.time)

  Second : ℕ → Type 0
  Second q = (New σ₁ σ₂ q) × (σ₁.time < discovery_at σ₂ q)

  which : (q : ℕ) → New σ σ₂ q → First q ⊎ Second q
  unfolding First Second
  which q n =
      ⊎_elim
      (λ z. inr ((z, n.1), (b.added q (z, n.1)).after))
      (λ s. inl ((n.0, s), b.discovery_kept q s, b.finishes_kept q s, (a.added q (n.0, s)).past))
      (zero_or (discovery_at σ₁ q))

  -- what is new to the second was not entered at first
  was_new : (q : ℕ) → discovery_at σ₁ q ≡ 0 → discovery_at σ q ≡ 0
  was_new q z = ⊎_elim (λ e. e) (λ s. absurd (omega (arith, a.discovery_kept q s))) (zero_or (discovery_at σ q))

  first_added : (q : ℕ) → First q → Added adj Ok p r σ σ₂ q
  unfolding First Second
  first_added q f =
      let A = a.added q f.0 in
      let s = f.0.1 in
      record {
        after = omega (arith, A.after, f.1);
        spans = omega (arith, A.spans, f.1, f.2);
        past = omega (arith, f.2, f.3, b.later);
        start = b.starts_kept q s ∙ A.start;
        closed = λ c m. let k = A.closed c m in let e = b.discovery_kept c k.0 in (omega (arith, k, e), omega (arith, k, e, f.2));
        reach = A.reach;
        came =
            ⊎_elim
            (λ l. inl (record {
              ok = l.ok;
              parent = b.parents_kept q s ∙ l.parent;
              widest = λ v n d h. ⊎_elim
                  (λ g. l.widest v g.0 d (omega (arith, h, g.1, g.2, f.1, f.2), omega (arith, h, g.1, g.2, f.1, f.2)))
                  (λ g. absurd (omega (arith, h, g.1, f.1, f.2, f.3, A.spans)))
                  (which v n);
            }))
            (λ l. inr (
              l.0,
              record {
                parent = b.parents_kept q s ∙ l.1.parent;
                new = (l.1.new.0, omega (arith, b.discovery_kept l.0 l.1.new.1, l.1.new.1));
                edge = l.1.edge;
                begins = omega (arith, b.discovery_kept l.0 l.1.new.1, l.1.begins, f.1);
                ends = omega (arith, b.finishes_kept l.0 l.1.new.1, l.1.ends, f.2);
                narrowest = λ v n d h. ⊎_elim
                    (λ g. let w = l.1.narrowest v g.0 d (omega (arith, h, g.1, g.2, f.1, f.2), omega (arith, h, g.1, g.2, f.1, f.2)) in
                    (omega (arith, w, g.1, b.discovery_kept l.0 l.1.new.1), omega (arith, w, g.2, b.finishes_kept l.0 l.1.new.1)))
                    (λ g. absurd (omega (arith, h, g.1, f.1, f.2, f.3, A.spans)))
                    (which v n);
              },
            ))
            A.came;
      }

  second_added : (q : ℕ) → Second q → Added adj Ok p r σ σ₂ q
  unfolding First Second
  second_added q f =
      let A = b.added q f.0 in
      record {
        after = omega (arith, A.after, a.later);
        spans = A.spans;
        past = A.past;
        start = A.start;
        closed = A.closed;
        reach = A.reach;
        came =
            ⊎_elim
            (λ l. inl (record {
              ok = l.ok;
              parent = l.parent;
              widest = λ v n d h. ⊎_elim
                  (λ g. absurd (omega (arith, h, g.2, g.3, f.1, A.spans)))
                  (λ g. l.widest v g.0 d h)
                  (which v n);
            }))
            (λ l. inr (
              l.0,
              record {
                parent = l.1.parent;
                new = (was_new l.0 l.1.new.0, l.1.new.1);
                edge = l.1.edge;
                begins = l.1.begins;
                ends = l.1.ends;
                narrowest = λ v n d h. ⊎_elim
                    (λ g. absurd (omega (arith, h, g.2, g.3, f.1, A.spans)))
                    (λ g. l.1.narrowest v g.0 d h)
                    (which v n);
              },
            ))
            A.came;
      }

  parted_two : (q u : ℕ) → (q ≡ u → ⊥) → First q ⊎ Second q → First u ⊎ Second u → Parted σ₂ q u
  unfolding First Second
  parted_two q u d (inl f) (inl g) = moved (a.parted q u f.0 g.0 d)
    where
      moved : Parted σ₁ q u → Parted σ₂ q u
      moved (inl h) = inl (omega (arith, h, f.2, g.1))
      moved (inr (inl h)) = inr (inl (omega (arith, h, g.2, f.1)))
      moved (inr (inr (inl h))) = inr (inr (inl (omega (arith, h, f.1, g.1), omega (arith, h, f.2, g.2))))
      moved (inr (inr (inr h))) = inr (inr (inr (omega (arith, h, f.1, g.1), omega (arith, h, f.2, g.2))))
  parted_two q u d (inl f) (inr g) = inl (omega (arith, f.2, f.3, g.1))
  parted_two q u d (inr f) (inl g) = inr (inl (omega (arith, g.2, g.3, f.1)))
  parted_two q u d (inr f) (inr g) = b.parted q u f.0 g.0 d

  pub walked_trans : Walked adj Ok p r σ σ₂
  walked_trans =
      record {
        later = le_trans a.later b.later;
        discovery_kept = λ q e. b.discovery_kept q (omega (arith, a.discovery_kept q e, e)) ∙ a.discovery_kept q e;
        finishes_kept = λ q e. b.finishes_kept q (omega (arith, a.discovery_kept q e, e)) ∙ a.finishes_kept q e;
        parents_kept = λ q e. b.parents_kept q (omega (arith, a.discovery_kept q e, e)) ∙ a.parents_kept q e;
        starts_kept = λ q e. b.starts_kept q (omega (arith, a.discovery_kept q e, e)) ∙ a.starts_kept q e;
        added = λ q n. ⊎_elim (first_added q) (second_added q) (which q n);
        parted = λ q u n m d. parted_two q u d (which q n) (which u m);
        hit = λ t x y.
            ⊎_elim
            (λ (le : t ≤ σ₁.time). let h = a.hit t x le in
            (h.0, (h.1.0, omega (arith, h.1, b.discovery_kept h.0 h.1.1)), ⊎_map (λ e. b.discovery_kept h.0 h.1.1 ∙ e) (λ e. b.finishes_kept h.0 h.1.1 ∙ e) h.2))
            (λ (lt : σ₁.time < t). let h = b.hit t lt y in (h.0, (was_new h.0 h.1.0, h.1.1), h.2))
            (le_or t σ₁.time);
      }

-- ---- entering one slot, around the walk of its edges

record Arrived (r p s : ℕ) (σ α : Stamps) : Type 0 where
  time : α.time ≡ σ.time + 1
  discovery_at_lem : discovery_at α s ≡ σ.time + 1
  parents_at : parent_at α s ≡ p
  starts_at : start_at α s ≡ r
  discovery_else : (q : ℕ) → (q ≡ s → ⊥) → discovery_at α q ≡ discovery_at σ q
  finishes_all : (q : ℕ) → finish_at α q ≡ finish_at σ q
  parents_else : (q : ℕ) → (q ≡ s → ⊥) → parent_at α q ≡ parent_at σ q
  starts_else : (q : ℕ) → (q ≡ s → ⊥) → start_at α q ≡ start_at σ q

record Left (s : ℕ) (ω σ' : Stamps) : Type 0 where
  time : σ'.time ≡ ω.time + 1
  finishes_at : finish_at σ' s ≡ ω.time + 1
  finishes_else : (q : ℕ) → (q ≡ s → ⊥) → finish_at σ' q ≡ finish_at ω q
  discovery_all : (q : ℕ) → discovery_at σ' q ≡ discovery_at ω q
  parents_all : (q : ℕ) → parent_at σ' q ≡ parent_at ω q
  starts_all : (q : ℕ) → start_at σ' q ≡ start_at ω q

arrive_is : (r p s : ℕ) (σ : Stamps) → s < length σ.discoveries → s < length σ.parents → s < length σ.starts → Arrived r p s σ (arrive r p s σ)
unfolding arrive
arrive_is r p s σ d u t =
    record {
      time = refl;
      discovery_at_lem = get_or-set_same σ.discoveries s (σ.time + 1) 0 d;
      parents_at = get_or-set_same σ.parents s p 0 u;
      starts_at = get_or-set_same σ.starts s r 0 t;
      discovery_else = λ q n. get_or-set_other σ.discoveries s q (σ.time + 1) 0 n;
      finishes_all = λ q. refl;
      parents_else = λ q n. get_or-set_other σ.parents s q p 0 n;
      starts_else = λ q n. get_or-set_other σ.starts s q r 0 n;
    }

leave_is : (s : ℕ) (ω : Stamps) → s < length ω.finishes → Left s ω (leave s ω)
unfolding leave
leave_is s ω f =
    record {
      time = refl;
      finishes_at = get_or-set_same ω.finishes s (ω.time + 1) 0 f;
      finishes_else = λ q n. get_or-set_other ω.finishes s q (ω.time + 1) 0 n;
      discovery_all = λ q. refl;
      parents_all = λ q. refl;
      starts_all = λ q. refl;
    }

arrived_timely : (r p s : ℕ) (σ α : Stamps) → Arrived r p s σ α → Timely σ → Timely α
arrived_timely r p s σ α A timely q = ⊎_elim (λ (e : q ≡ s). omega (arith, ap (discovery_at α) e, A.discovery_at_lem, A.time)) (λ (d : q ≡ s → ⊥). omega (arith, A.discovery_else q d, timely q, A.time)) (same_or q s)

module _ (adj : ℕ → List ℕ) (Ok : ℕ → Type 0) (p r s : ℕ) (σ α ω σ' : Stamps) (A : Arrived r p s σ α) (L : Left s ω σ') (ok : Ok s) (z : discovery_at σ s ≡ 0) (timely : Timely σ)
    (w : Walked adj (λ q. Memᴰ q (adj s)) s r α ω) (all : (c : ℕ) → Memᴰ c (adj s) → 0 < discovery_at ω c) where
  s_entered : 0 < discovery_at α s
  s_entered = omega (arith, A.discovery_at_lem)

  s_discovery : discovery_at σ' s ≡ σ.time + 1
  s_discovery = L.discovery_all s ∙ w.discovery_kept s s_entered ∙ A.discovery_at_lem

  room : σ.time + 1 ≤ ω.time
  room = omega (arith, A.time, w.later)

  s_new : New σ σ' s
  s_new = (z, omega (arith, s_discovery))

  -- an old slot is not s, and is old to the walk of the edges too
  not_s : (q : ℕ) → 0 < discovery_at σ q → q ≡ s → ⊥
  not_s q lt e = let h : discovery_at σ q ≡ 0 = ap (discovery_at σ) e ∙ z in omega arith

  still : (q : ℕ) → 0 < discovery_at σ q → 0 < discovery_at α q
  still q lt = omega (arith, A.discovery_else q (not_s q lt))

  inner : (q : ℕ) → (q ≡ s → ⊥) → New σ σ' q → New α ω q
  inner q d n = (A.discovery_else q d ∙ n.0, omega (arith, n.1, L.discovery_all q))

  outer_not : (q : ℕ) → New α ω q → q ≡ s → ⊥
  outer_not q n e = let h : discovery_at α s ≡ 0 = ap (discovery_at α) (sym e) ∙ n.0 in omega (arith, s_entered)

  outer : (q : ℕ) → New α ω q → New σ σ' q
  outer q n = (sym (A.discovery_else q (outer_not q n)) ∙ n.0, omega (arith, n.1, L.discovery_all q))

  -- s's interval is strictly around each that its edges' walk entered
  around : (q : ℕ) → New α ω q → (discovery_at σ' s < discovery_at σ' q) × (finish_at σ' q < finish_at σ' s)
  around q n =
      let B = w.added q n in
      let d = outer_not q n in
      (omega (arith, s_discovery, B.after, A.time, L.discovery_all q), omega (arith, L.finishes_at, B.past, L.finishes_else q d))

  added_s : Added adj Ok p r σ σ' s
  added_s =
      record {
        after = omega (arith, s_discovery);
        spans = omega (arith, s_discovery, L.finishes_at, room);
        past = omega (arith, L.finishes_at, L.time);
        start = L.starts_all s ∙ w.starts_kept s s_entered ∙ A.starts_at;
        closed = λ c m. let k = timely_walked adj (λ q. Memᴰ q (adj s)) s r α ω w (arrived_timely r p s σ α A timely) c in (omega (arith, all c m, L.discovery_all c), omega (arith, k, L.discovery_all c, L.finishes_at));
        reach = (s, ok, here);
        came = inl (record {
          ok = ok;
          parent = L.parents_all s ∙ w.parents_kept s s_entered ∙ A.parents_at;
          widest = λ v n d h. absurd (let k = around v (inner v d n) in omega (arith, h, k));
        });
      }

  added_else : (q : ℕ) → New α ω q → Added adj Ok p r σ σ' q
  added_else q m =
      let B = w.added q m in
      let d = outer_not q m in
      record {
        after = omega (arith, B.after, A.time, L.discovery_all q);
        spans = omega (arith, B.spans, L.discovery_all q, L.finishes_else q d);
        past = omega (arith, B.past, L.finishes_else q d, L.time);
        start = L.starts_all q ∙ B.start;
        closed = λ c k. let h = B.closed c k in (omega (arith, h, L.discovery_all c), omega (arith, h, L.discovery_all c, L.finishes_else q d));
        reach = (s, ok, reach_from B.reach.1 B.reach.2);
        came =
            ⊎_elim
            (λ l. inr (
              s,
              record {
                parent = L.parents_all q ∙ l.parent;
                new = s_new;
                edge = l.ok;
                begins = (around q m).0;
                ends = (around q m).1;
                narrowest = λ v n e h. ⊎_elim
                    (λ (same : v ≡ s). (omega (arith, ap (discovery_at σ') same), omega (arith, ap (finish_at σ') same)))
                    (λ (other : v ≡ s → ⊥). absurd (l.widest v (inner v other n) e (omega (arith, h, L.discovery_all v, L.discovery_all q), omega (arith, h, L.finishes_else v other, L.finishes_else q d))))
                    (same_or v s);
              },
            ))
            (λ l. let u = l.0 in let k = l.1 in inr (
              u,
              record {
                parent = L.parents_all q ∙ k.parent;
                new = outer u k.new;
                edge = k.edge;
                begins = omega (arith, k.begins, L.discovery_all q, L.discovery_all u);
                ends = omega (arith, k.ends, L.finishes_else q d, L.finishes_else u (outer_not u k.new));
                narrowest = λ v n e h. ⊎_elim
                    (λ (same : v ≡ s). let i = around u k.new in (omega (arith, ap (discovery_at σ') same, i), omega (arith, ap (finish_at σ') same, i)))
                    (λ (other : v ≡ s → ⊥). let i = k.narrowest v (inner v other n) e (omega (arith, h, L.discovery_all v, L.discovery_all q), omega (arith, h, L.finishes_else v other, L.finishes_else q d)) in
                    (omega (arith, i, L.discovery_all v, L.discovery_all u), omega (arith, i, L.finishes_else v other, L.finishes_else u (outer_not u k.new))))
                    (same_or v s);
              },
            ))
            B.came;
      }

  parted_enter : (q u : ℕ) → New σ σ' q → New σ σ' u → (q ≡ u → ⊥) → (q ≡ s) ⊎ (q ≡ s → ⊥) → (u ≡ s) ⊎ (u ≡ s → ⊥) → Parted σ' q u
  parted_enter q u n m d (inl e) (inl f) = absurd (d (e ∙ sym f))
  parted_enter q u n m d (inl e) (inr f) = let k = around u (inner u f m) in inr (inr (inl (omega (arith, k, ap (discovery_at σ') e), omega (arith, k, ap (finish_at σ') e))))
  parted_enter q u n m d (inr e) (inl f) = let k = around q (inner q e n) in inr (inr (inr (omega (arith, k, ap (discovery_at σ') f), omega (arith, k, ap (finish_at σ') f))))
  parted_enter q u n m d (inr e) (inr f) = moved (w.parted q u (inner q e n) (inner u f m) d)
    where
      moved : Parted ω q u → Parted σ' q u
      moved (inl h) = inl (omega (arith, h, L.finishes_else q e, L.discovery_all u))
      moved (inr (inl h)) = inr (inl (omega (arith, h, L.finishes_else u f, L.discovery_all q)))
      moved (inr (inr (inl h))) = inr (inr (inl (omega (arith, h, L.discovery_all q, L.discovery_all u), omega (arith, h, L.finishes_else q e, L.finishes_else u f))))
      moved (inr (inr (inr h))) = inr (inr (inr (omega (arith, h, L.discovery_all q, L.discovery_all u), omega (arith, h, L.finishes_else q e, L.finishes_else u f))))

  entered_walked : Walked adj Ok p r σ σ'
  entered_walked =
      record {
        later = omega (arith, L.time, room);
        discovery_kept = λ q e. L.discovery_all q ∙ w.discovery_kept q (still q e) ∙ A.discovery_else q (not_s q e);
        finishes_kept = λ q e. L.finishes_else q (not_s q e) ∙ w.finishes_kept q (still q e) ∙ A.finishes_all q;
        parents_kept = λ q e. L.parents_all q ∙ w.parents_kept q (still q e) ∙ A.parents_else q (not_s q e);
        starts_kept = λ q e. L.starts_all q ∙ w.starts_kept q (still q e) ∙ A.starts_else q (not_s q e);
        added = λ q n. ⊎_elim (λ (e : q ≡ s). subst (Added adj Ok p r σ σ') (sym e) added_s) (λ (d : q ≡ s → ⊥). added_else q (inner q d n)) (same_or q s);
        parted = λ q u n m d. parted_enter q u n m d (same_or q s) (same_or u s);
        hit = λ t x y.
            ⊎_elim
            (λ (e : t ≡ σ.time + 1). (s, s_new, inl (s_discovery ∙ sym e)))
            (λ (d : t ≡ σ.time + 1 → ⊥).
            ⊎_elim
            (λ (e : t ≡ ω.time + 1). (s, s_new, inr (L.finishes_at ∙ sym e)))
            (λ (f : t ≡ ω.time + 1 → ⊥).
            let h = w.hit t (omega (arith, A.time)) (omega (arith, L.time)) in
            (h.0, outer h.0 h.1, ⊎_map (λ e. L.discovery_all h.0 ∙ e) (λ e. L.finishes_else h.0 (outer_not h.0 h.1) ∙ e) h.2))
            (same_or t (ω.time + 1)))
            (same_or t (σ.time + 1));
      }

-- ---- the walk itself

pub record Sized (size n : ℕ) (σ : Stamps) : Type 0 where
  pub discs : length σ.discoveries ≡ size
  pub fins : length σ.finishes ≡ size
  pub pars : length σ.parents ≡ size
  pub starts : length σ.starts ≡ size
  pub few : fresh σ.discoveries ≤ n

pub sized_less : (size n : ℕ) (σ σ' : Stamps) → Less σ σ' → Sized size n σ → Sized size n σ'
sized_less size n σ σ' l z =
    record {
      discs = l.discs ∙ z.discs;
      fins = l.fins ∙ z.fins;
      pars = l.pars ∙ z.pars;
      starts = l.starts ∙ z.starts;
      few = le_trans l.fewer z.few;
    }

arrived_sized : (size n r p s : ℕ) (σ : Stamps) → Sized size (suc n) σ → s < length σ.discoveries → discovery_at σ s ≡ 0 → Sized size n (arrive r p s σ)
unfolding arrive
arrived_sized size n r p s σ z lt e =
    record {
      discs = length-set σ.discoveries s (σ.time + 1) ∙ z.discs;
      fins = z.fins;
      pars = length-set σ.parents s p ∙ z.pars;
      starts = length-set σ.starts s r ∙ z.starts;
      few = omega (arith, z.few, fresh_set σ.discoveries s σ.time lt e);
    }

module _ (adj : ℕ → List ℕ) (size : ℕ) (inside : (s q : ℕ) → s < size → Memᴰ q (adj s) → q < size) where
  -- what a visit of q does: a walk, from the slots that are Ok, after which q is entered
  abbrev Visit : (ℕ → Type 0) → ℕ → ℕ → ℕ → (ℕ → Stamps → Stamps) → Type 0
  Visit Ok p r n visit = (q : ℕ) (σ : Stamps) → Sized size n σ → Timely σ → Ok q → q < size → discovery_at σ q ≡ 0 → (Less σ (visit q σ)) × (Walked adj Ok p r σ (visit q σ)) × (0 < discovery_at (visit q σ) q)

  pub edges_walked : (Ok : ℕ → Type 0) (p r n : ℕ) (visit : ℕ → Stamps → Stamps) → Visit Ok p r n visit
      → (qs : List ℕ) → ((q : ℕ) → Memᴰ q qs → (Ok q) × (q < size)) → (σ : Stamps) → Sized size n σ → Timely σ
      → (Less σ (edges visit qs σ)) × (Walked adj Ok p r σ (edges visit qs σ)) × ((c : ℕ) → Memᴰ c qs → 0 < discovery_at (edges visit qs σ) c)
  unfolding edges
  edges_walked Ok p r n visit one [] oks σ z tm = (less_refl σ, walked_refl adj Ok p r σ, λ c m. absurd (Memᴰ.not-nil m))
  edges_walked Ok p r n visit one (q ∷ qs) oks σ z tm =
      let here-ok = oks q (Memᴰ.head refl) in
      let τ : Stamps = edge visit q σ in
      let first : (Less σ τ) × (Walked adj Ok p r σ τ) × (0 < discovery_at τ q) =
      ⊎_elim
      (λ (e : discovery_at σ q ≡ 0). subst (λ (x : Stamps). (Less σ x) × (Walked adj Ok p r σ x) × (0 < discovery_at x q)) (sym (edge_new visit q σ e)) (one q σ z tm here-ok.0 here-ok.1 e))
      (λ (e : 0 < discovery_at σ q). subst (λ (x : Stamps). (Less σ x) × (Walked adj Ok p r σ x) × (0 < discovery_at x q)) (sym (edge_old visit q σ (λ o. omega (arith, o, e)))) (less_refl σ, walked_refl adj Ok p r σ, e))
      (zero_or (discovery_at σ q)) in
      let rest = edges_walked Ok p r n visit one qs (λ c m. oks c (Memᴰ.tail m)) τ (sized_less size n σ τ first.0 z) (timely_walked adj Ok p r σ τ first.1 tm) in
      let ρ : Stamps = edges visit qs τ in (
        less_trans σ τ ρ first.0 rest.0,
        walked_trans adj Ok p r σ τ ρ first.1 rest.1,
        λ c m. ⊎_elim (λ (e : c ≡ q). let k = rest.1.discovery_kept q first.2 in omega (arith, k, first.2, ap (discovery_at ρ) e)) (λ (t : Memᴰ c qs). rest.2 c t) (Memᴰ.cases_cons m),
      )

  pub enters_walked : (Ok : ℕ → Type 0) (p r n : ℕ) → Visit Ok p r n (λ q. enters n adj r p q)
  unfolding enters
  enters_walked Ok p r zero s σ z tm ok lt e = absurd (omega (arith, fresh_set σ.discoveries s σ.time (omega (arith, z.discs)) e, z.few))
  enters_walked Ok p r (suc n) s σ z tm ok lt e =
      let α : Stamps = arrive r p s σ in
      let ω : Stamps = edges (λ q. enters n adj r s q) (adj s) α in
      let sα : Sized size n α = arrived_sized size n r p s σ z (omega (arith, z.discs)) e in
      let A = arrive_is r p s σ (omega (arith, z.discs)) (omega (arith, z.pars)) (omega (arith, z.starts)) in
      let body = edges_walked (λ q. Memᴰ q (adj s)) s r n (λ q. enters n adj r s q) (enters_walked (λ q. Memᴰ q (adj s)) s r n) (adj s) (λ q m. (m, inside s q lt m)) α sα (arrived_timely r p s σ α A tm) in
      let L = leave_is s ω (omega (arith, body.0.fins, sα.fins)) in (
        enters_less adj size inside (suc n) r p s σ z.discs lt e,
        entered_walked adj Ok p r s σ α ω (leave s ω) A L ok e tm body.1 body.2,
        omega (arith, L.discovery_all s, body.1.discovery_kept s (omega (arith, A.discovery_at_lem)), A.discovery_at_lem),
      )
