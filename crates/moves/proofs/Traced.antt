-- After any list of moves every standing clause is the loaded one of its number with literals left out and the others in their order, once class literals are put in on both sides (`only_left_out`).
-- The class map stays idempotent, since Merge groups only where every literal that stands is its own class. Assumes nothing.
use Prim.Native.Nat.{ℕ, ◌≤◌, ◌<◌}
use mathlib.Core.Path.{◌≡◌, refl, sym, ap, subst, ◌∙◌}
use mathlib.Core.Logic.{⊎_elim}
use mathlib.Core.List.Memᴰ
use mathlib.Core.List.Sublistᴰ
use mathlib.Core.List.{List, [], ◌∷◌, map, Sublistᴰ}
use lib.ListN.{length, get_or, set}
use lib.Seq.{get_or-set_same, get_or-set_other, set_out}
use Rattle.base.specs.Decide.{same_or, le_or}
use Rattle.walk.specs.Forest.{Reach, here, on}
use Rattle.hidden.proofs.Pairs.{by_reads}
use Rattle.sound.specs.Formula.{Clause, dropped, standing, graph}
use Rattle.sound.proofs.Graph.{not_standing, standing_eq, edge_pair}
use Rattle.sound.proofs.Sound.{from_sub}
use Rattle.moves.specs.Core.{Core, load, core_clause, put, Traced}
use Rattle.moves.specs.Moves.{Owned, Change, satisfied, falsified, unit, conflict, contrary, grouped, substituted, tautology, Freshness, spent, Behind, spend, failed, opposite, sweep, Move, change, stamp, behind, Moves, stay, go}

map_sub : (g : ℕ → ℕ) {D C : List ℕ} → Sublistᴰ D C → Sublistᴰ (map g D) (map g C)
map_sub g Sublistᴰ.slnil = Sublistᴰ.slnil
map_sub g (Sublistᴰ.cons s) = Sublistᴰ.cons (map_sub g s)
map_sub g (Sublistᴰ.cons-cons e s) = Sublistᴰ.cons-cons (ap g e) (map_sub g s)

map_map : (g h : ℕ → ℕ) (C : List ℕ) → map g (map h C) ≡ map (λ s. g (h s)) C
map_map g h [] = refl
map_map g h (x ∷ C) = ap (λ (l : List ℕ). g (h x) ∷ l) (map_map g h C)

map_same : (g h : ℕ → ℕ) → ((s : ℕ) → g s ≡ h s) → (C : List ℕ) → map g C ≡ map h C
map_same g h e [] = refl
map_same g h e (x ∷ C) = λ i. e x i ∷ map_same g h e C i

module _ (f : List Clause) (k : Core) (T : Traced f k) where
  -- a clause replaced by a part of itself, through the classes
  put_traced : (i : ℕ) (c : Clause) → ((B : List ℕ) → c ≡ standing B → (D : List ℕ) × (core_clause k i ≡ standing D) × Sublistᴰ (map k.class B) (map k.class D)) → Traced f (put i c k)
  put_traced i c h =
      record {
        once = T.once;
        part = λ j B e.
            ⊎_elim
            (λ (q : j ≡ i).
            ⊎_elim
            (λ (out : length k.clauses ≤ i). T.part j B (ap (λ (g : List Clause). get_or g j dropped) (sym (set_out k.clauses i c out)) ∙ e))
            (λ (lt : i < length k.clauses).
            let r = h B (sym (get_or-set_same k.clauses i c dropped lt) ∙ ap (λ (x : ℕ). get_or (set k.clauses i c) x dropped) (sym q) ∙ e) in
            let o = T.part j r.0 (ap (λ (x : ℕ). get_or k.clauses x dropped) q ∙ r.1) in
            (o.0, o.1, Sublistᴰ.trans r.2 o.2))
            (le_or (length k.clauses) i))
            (λ (d : j ≡ i → ⊥). T.part j B (sym (get_or-set_other k.clauses i j c dropped d) ∙ e))
            (same_or j i);
      }

  dropped_traced : (i : ℕ) → Traced f (put i dropped k)
  dropped_traced i = put_traced i dropped (λ B e. absurd (not_standing e))

  shorter_traced : (i : ℕ) (D C : List ℕ) → core_clause k i ≡ standing C → Sublistᴰ (map k.class D) (map k.class C) → Traced f (put i (standing D) k)
  shorter_traced i D C e s = put_traced i (standing D) (λ B q. (C, e, subst (λ (x : List ℕ). Sublistᴰ (map k.class x) (map k.class C)) (standing_eq q) s))

  -- classes of class literals are those literals
  class_class : (C : List ℕ) → map k.class (map k.class C) ≡ map k.class C
  class_class C = map_map k.class k.class C ∙ map_same (λ s. k.class (k.class s)) k.class T.once C

  -- from a literal that is its own class a path leads only to such: a step on leads to a literal that stands
  owned_path : Owned k → {t u : ℕ} → k.class t ≡ t → Reach (graph k.clauses) t u → k.class u ≡ u
  owned_path own e here = e
  owned_path own e (on {b = b} {c = c} r m) =
      let p = edge_pair k.clauses b c m in
      by_reads (λ x y. k.class y ≡ y) p.3 (own _ p.2 p.1 (Memᴰ.tail (Memᴰ.head refl))) (own _ p.2 p.0 (Memᴰ.head refl))

change_traced : (f : List Clause) {k k' : Core} → Change k k' → Traced f k → Traced f k'
change_traced f {k} (satisfied i e m h) T = dropped_traced f k T i
change_traced f {k} (falsified i {C = C} {D = D} e s left) T = shorter_traced f k T i D C e (map_sub k.class s)
change_traced f {k} (unit i e) T = let U = dropped_traced f k T i in record { part = U.part; once = U.once }
change_traced f (conflict i e) T = record { part = T.part; once = T.once }
change_traced f (contrary l there back) T = record { part = T.part; once = T.once }
change_traced f {k} (grouped ρ own both once) T =
    record {
      part = λ i D e.
          let r = T.part i D e in
          (r.0, r.1, subst (λ (x : List ℕ). Sublistᴰ x (map (λ s. ρ (k.class s)) r.0)) (map_map ρ k.class D) (subst (Sublistᴰ (map ρ (map k.class D))) (map_map ρ k.class r.0) (map_sub ρ r.2)));
      once = λ s. ap ρ (owned_path f k T own (T.once s) (both (k.class s)).0) ∙ once (k.class s);
    }
change_traced f {k} (substituted i {C = C} {D = D} e s all) T = shorter_traced f k T i D C e (subst (Sublistᴰ (map k.class D)) (class_class f k T C) (map_sub k.class s))
change_traced f {k} (tautology i e m n) T = dropped_traced f k T i

behind_traced : (f : List Clause) {vars : ℕ} {k k' : Core} {w w' : Freshness} → Behind vars k w k' w' → Traced f k → Traced f k'
behind_traced f spend T = T
behind_traced f (failed s lt e) T = record { part = T.part; once = T.once }
behind_traced f (opposite s lt e h) T = record { part = T.part; once = T.once }
behind_traced f (sweep {k = k} {σ = σ} {c = c} n) T =
    record {
      once = T.once;
      part = λ i D e.
          let r = from_sub σ c n k.clauses i D e in
          let o = T.part i r.0 r.1 in
          (o.0, o.1, Sublistᴰ.trans (map_sub k.class r.2) o.2);
    }

move_traced : (f : List Clause) {vars : ℕ} {k k' : Core} {w w' : Freshness} → Move vars k w k' w' → Traced f k → Traced f k'
move_traced f (change c) T = change_traced f c T
move_traced f (stamp order shaped list uncyclic) T = T
move_traced f (behind m) T = behind_traced f m T

pub moves_traced : (f : List Clause) {vars : ℕ} {k : Core} {w : Freshness} {k' : Core} {w' : Freshness} → Moves vars k w k' w' → Traced f k → Traced f k'
moves_traced f stay T = T
moves_traced f (go ms m) T = move_traced f m (moves_traced f ms T)

pub only_left_out : {vars : ℕ} (f : List Clause) {k : Core} {w : Freshness} → Moves vars (load f) spent k w → Traced f k
only_left_out f ms = moves_traced f ms (record { part = λ i D e. (D, e, Sublistᴰ.refl _); once = λ s. refl })
