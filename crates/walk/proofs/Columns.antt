-- The columns of the slots' stamps: an entry of a column, what storing a stamp does to each, and the steps of `enter` over them.
-- Assumes nothing.
use Rattle.std.proofs.Common.{◌≡◌, ℕ, suc, ◌+◌, ◌<◌, ◌≤◌, List, length, get_or, set, refl, sym, subst, ◌∙◌, ap}
use Rattle.std.proofs.Math.ListN.{get_or-map}
use Rattle.std.proofs.Math.Seq.{map-set_same}
use Rattle.std.proofs.lemmas.List.{map-set, length-map, length-set}
use Rattle.walk.specs.declared.SlotStamp.{SlotStamp}
use Rattle.walk.specs.Walk.{Stamps, arrive, leave, edges, enters, fresh}
use Rattle.walk.specs.Compressed.{Graph, Columns}
use Rattle.walk.specs.Slots.{discoveries_of, finishes_of, parents_of, starts_of, stamps_of}
use Rattle.walk.proofs.Run.{arrived, finished, stamps_eq}

-- a slot of which nothing is known
abbrev pub blank_stamp : SlotStamp
blank_stamp = record { discovery = 0; finish = 0; parent = 0; start = 0 }

-- each column is as long as the stamps are many
pub discoveries_long : (l : List SlotStamp) → length (discoveries_of l) ≡ length l
discoveries_long l = length-map l (λ (x : SlotStamp). x.discovery)

pub finishes_long : (l : List SlotStamp) → length (finishes_of l) ≡ length l
finishes_long l = length-map l (λ (x : SlotStamp). x.finish)

pub parents_long : (l : List SlotStamp) → length (parents_of l) ≡ length l
parents_long l = length-map l (λ (x : SlotStamp). x.parent)

pub starts_long : (l : List SlotStamp) → length (starts_of l) ≡ length l
starts_long l = length-map l (λ (x : SlotStamp). x.start)

-- an entry of a column
pub discovery_at : (l : List SlotStamp) (i : ℕ) → get_or (discoveries_of l) i 0 ≡ (get_or l i blank_stamp).discovery
discovery_at l i = get_or-map (λ (x : SlotStamp). x.discovery) l i blank_stamp

pub finish_at : (l : List SlotStamp) (i : ℕ) → get_or (finishes_of l) i 0 ≡ (get_or l i blank_stamp).finish
finish_at l i = get_or-map (λ (x : SlotStamp). x.finish) l i blank_stamp

pub parent_at : (l : List SlotStamp) (i : ℕ) → get_or (parents_of l) i 0 ≡ (get_or l i blank_stamp).parent
parent_at l i = get_or-map (λ (x : SlotStamp). x.parent) l i blank_stamp

pub start_at : (l : List SlotStamp) (i : ℕ) → get_or (starts_of l) i 0 ≡ (get_or l i blank_stamp).start
start_at l i = get_or-map (λ (x : SlotStamp). x.start) l i blank_stamp

pub discoveries_set : (l : List SlotStamp) (i : ℕ) (x : SlotStamp) → discoveries_of (set l i x) ≡ set (discoveries_of l) i x.discovery
discoveries_set l i x = map-set (λ (y : SlotStamp). y.discovery) l i x

pub finishes_set : (l : List SlotStamp) (i : ℕ) (x : SlotStamp) → finishes_of (set l i x) ≡ set (finishes_of l) i x.finish
finishes_set l i x = map-set (λ (y : SlotStamp). y.finish) l i x

pub parents_set : (l : List SlotStamp) (i : ℕ) (x : SlotStamp) → parents_of (set l i x) ≡ set (parents_of l) i x.parent
parents_set l i x = map-set (λ (y : SlotStamp). y.parent) l i x

pub starts_set : (l : List SlotStamp) (i : ℕ) (x : SlotStamp) → starts_of (set l i x) ≡ set (starts_of l) i x.start
starts_set l i x = map-set (λ (y : SlotStamp). y.start) l i x

-- a column stays if the stored stamp has the old entry there
pub discoveries_kept : (l : List SlotStamp) (i : ℕ) (x : SlotStamp) → x.discovery ≡ (get_or l i blank_stamp).discovery → discoveries_of (set l i x) ≡ discoveries_of l
discoveries_kept l i x e = map-set_same (λ (y : SlotStamp). y.discovery) l i x blank_stamp e

pub finishes_kept : (l : List SlotStamp) (i : ℕ) (x : SlotStamp) → x.finish ≡ (get_or l i blank_stamp).finish → finishes_of (set l i x) ≡ finishes_of l
finishes_kept l i x e = map-set_same (λ (y : SlotStamp). y.finish) l i x blank_stamp e

pub parents_kept : (l : List SlotStamp) (i : ℕ) (x : SlotStamp) → x.parent ≡ (get_or l i blank_stamp).parent → parents_of (set l i x) ≡ parents_of l
parents_kept l i x e = map-set_same (λ (y : SlotStamp). y.parent) l i x blank_stamp e

pub starts_kept : (l : List SlotStamp) (i : ℕ) (x : SlotStamp) → x.start ≡ (get_or l i blank_stamp).start → starts_of (set l i x) ≡ starts_of l
starts_kept l i x e = map-set_same (λ (y : SlotStamp). y.start) l i x blank_stamp e

pub stamps_of_eq : {t t' : ℕ} {l l' : List SlotStamp} → l ≡ l' → t ≡ t' → stamps_of t l ≡ stamps_of t' l'
stamps_of_eq l t = λ i. stamps_of (t i) (l i)

-- slot `slot` is discovered: its stamp but for the finish is stored
abbrev pub arriving : List SlotStamp → ℕ → ℕ → ℕ → ℕ → List SlotStamp
arriving l t slot parent start = set l slot (record { discovery = t + 1; finish = (get_or l slot blank_stamp).finish; parent = parent; start = start })

pub arriving_is : (l : List SlotStamp) (t slot parent start : ℕ) → stamps_of (t + 1) (arriving l t slot parent start) ≡ arrive start parent slot (stamps_of t l)
unfolding arrive
arriving_is l t slot parent start =
    let x : SlotStamp = record { discovery = t + 1; finish = (get_or l slot blank_stamp).finish; parent = parent; start = start } in
    stamps_eq (discoveries_set l slot x) (finishes_kept l slot x refl) (parents_set l slot x) (starts_set l slot x) refl

-- slot `slot` is finished: its finish is stored
abbrev pub leaving : List SlotStamp → ℕ → ℕ → List SlotStamp
leaving l t slot =
    let x : SlotStamp = get_or l slot blank_stamp in
    set l slot (record { discovery = x.discovery; finish = t + 1; parent = x.parent; start = x.start })

pub leaving_is : (l : List SlotStamp) (t slot : ℕ) → stamps_of (t + 1) (leaving l t slot) ≡ leave slot (stamps_of t l)
unfolding leave
leaving_is l t slot =
    let x : SlotStamp = get_or l slot blank_stamp in
    let y : SlotStamp = record { discovery = x.discovery; finish = t + 1; parent = x.parent; start = x.start } in
    stamps_eq (discoveries_kept l slot y refl) (finishes_set l slot y) (parents_kept l slot y refl) (starts_kept l slot y refl) refl

-- what `enter` shows to the walk of its edges
pub arrived_stamps : (offsets targets : List ℕ) (l : List SlotStamp) (t slot parent start : ℕ) → Graph offsets targets (length l) → Columns (length l) (stamps_of t l) → slot < length l → get_or (discoveries_of l) slot 0 ≡ 0
    → (fresh (discoveries_of l) ≡ suc (fresh (discoveries_of (arriving l t slot parent start))))
    × (Graph offsets targets (length (arriving l t slot parent start))
    × (Columns (length (arriving l t slot parent start)) (stamps_of (t + 1) (arriving l t slot parent start))
    × (slot < length (arriving l t slot parent start))))
arrived_stamps offsets targets l t slot parent start g c lt e =
    let α = arrived (length l) slot parent start (stamps_of t l) c lt e in
    let is = arriving_is l t slot parent start in
    let len : length l ≡ length (arriving l t slot parent start) = sym (length-set l slot _) in (
      α.0 ∙ ap (λ (σ : Stamps). suc (fresh σ.discoveries)) (sym is),
      (
        subst (Graph offsets targets) len g,
        (
          subst (λ (k : ℕ). Columns k (stamps_of (t + 1) (arriving l t slot parent start))) len (subst (Columns (length l)) (sym is) α.1),
          subst (λ (k : ℕ). slot < k) len lt,
        ),
      ),
    )

-- what `enter` shows at its end
pub finished_stamps : (adj : ℕ → List ℕ) (n : ℕ) (l l' : List SlotStamp) (t r slot parent start : ℕ) → slot < length l → get_or (discoveries_of l) slot 0 ≡ 0 → fresh (discoveries_of l) ≤ n
    → ((m : ℕ) → fresh (discoveries_of (arriving l t slot parent start)) ≤ m
    → stamps_of r l' ≡ edges (λ q. enters m adj start slot q) (adj slot) (stamps_of (t + 1) (arriving l t slot parent start)))
    → stamps_of (r + 1) (leaving l' r slot) ≡ enters n adj start parent slot (stamps_of t l)
finished_stamps adj n l l' t r slot parent start lt e le walk =
    leaving_is l' r slot
    ∙ finished adj n slot parent start (stamps_of t l) (stamps_of r l') (subst (λ (k : ℕ). slot < k) (sym (discoveries_long l)) lt) e le
    (subst (λ (σ : Stamps). (m : ℕ) → fresh σ.discoveries ≤ m → stamps_of r l' ≡ edges (λ q. enters m adj start slot q) (adj slot) σ) (arriving_is l t slot parent start) walk)
