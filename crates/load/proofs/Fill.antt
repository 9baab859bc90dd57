-- Zeros up to an end, the variables' records, and a load's tables from what was laid. Assumes nothing.
use mathlib.Core.Path.{◌≡◌, refl, sym, ap, ◌∙◌}
use mathlib.Core.Bool.{Bool, true, false}
use mathlib.Core.List.{List, [], ◌∷◌, ◌++◌, append_assoc, append-nil}
use Prim.Native.Nat.{ℕ, suc, ◌+◌, ◌*◌, ◌-◌, ◌≤◌, ◌<◌}
use native.Mathlib.Omega.{arith}
use native.Mathlib.Numerals.{add-one}
use lib.ListN.{length, take, drop, set, replicate, length-set, length-append, length-drop}
use borrow.Rule.Slice.PartMut.{put_mid}
use lib.Seq.{drop-set-lt, drop-drop, length-take-le, sets, sets-eq, take_at}
use lib.IntN.{ℤ, pos}
use Rattle.base.specs.Decide.{Decides, says_yes, agrees}
use Rattle.state.specs.States.{loaded_state}
use Rattle.state.specs.declared.State.{State}
use Rattle.state.specs.declared.Refusal.TheVariants.{Shape}
use Rattle.state.specs.declared.Answer.TheVariants.{Loaded}
use Rattle.tables.specs.Tables.{Tables, tables}
use Rattle.tables.specs.Long.{Long, long?, long_ok}
use Rattle.tables.specs.Calls.{answered, refuse}
use Rattle.literal.proofs.Ranged.{in_all}
use Rattle.dimacs.specs.Numbers.{clauses_kept, Judged}
use Rattle.dimacs.proofs.Accepted.{Within, text_within}
use Rattle.join.proofs.Within.{join_within}
use Rattle.load.specs.Load.{accept, load_by, load_formula, laid, filled, clause_records, literal_places, variable_records}
use Rattle.load.specs.Laid.{cleared, Layable, LayableBy, either_verdict, either_clauses, LaidBy}
use Rattle.load.specs.declared.Progress.{Progress}
use Rattle.load.specs.declared.Source.{Source}
use Rattle.load.specs.declared.Source.TheVariants.{Text, Joined}
use Rattle.std.specs.Prelude.{Result, Ok, Err}
use Rattle.dimacs.specs.declared.Header.{Header}
use Rattle.state.specs.declared.Refusal.{Refusal}
use Rattle.dimacs.specs.Header.{fitting}

-- ---- zeros from k up to `end`, in a table of any numbers
module _ {A : Type 0} (z : A) where
  -- a part of the table that is all zeros is put back
  pub cleared_part : (p : List A) (k end : ℕ) {d : List A} → k ≤ end → end ≤ length p → d ≡ replicate (length (take (end - k) (drop k p))) z → put_mid k (end - k) p d ≡ cleared z p k end
  cleared_part p k end {d} h r e =
      let n : length (take (end - k) (drop k p)) ≡ end - k = length-take-le (end - k) (drop k p) (omega (arith, length-drop k p)) in
      let s : k + (end - k) ≡ end = omega arith in
      let behind : drop (end - k) (drop k p) ≡ drop end p = drop-drop (end - k) k p ∙ ap (λ (j : ℕ). drop j p) s in
      rw (e, n, behind)

  pub cleared_front : (p : List A) (end : ℕ) {d : List A} → end ≤ length p → d ≡ replicate (length (take end p)) z → d ++ drop end p ≡ cleared z p 0 end
  cleared_front p end {d} r e = let n : end - 0 ≡ end = omega arith in rw (e, length-take-le end p r, n)

  -- what was laid at the front, and zeros behind it
  cleared_filled : (p₀ p xs : List A) (k end : ℕ) → take k p ≡ xs → k ≤ length p → drop end p ≡ drop end p₀ → cleared z p k end ≡ filled z end xs p₀
  cleared_filled p₀ p xs k end e h d =
      let n : length xs ≡ k = ap length (sym e) ∙ length-take-le k p h in
      rw (n) ((λ i. e i ++ (replicate (end - k) z ++ d i)))

-- ---- the variables' records: i of them are laid
pub record Owning (w₀ : List ℤ) (v : ℕ) (w : List ℤ) (i : ℕ) : Type 0 where
  pub within : i ≤ v
  pub small : v ≤ 1024
  pub room : 2048 ≤ length w
  pub size : length w ≡ length w₀
  pub front : variable_records 1 v ≡ take (2 * i) w ++ variable_records (i + 1) (v - i)
  pub beyond : drop 2048 w ≡ drop 2048 w₀

pair_front : (w : List ℤ) (i : ℕ) (a b : ℤ) → 2 * i + 2 ≤ length w → take (2 * (i + 1)) (set (set w (2 * i) a) (2 * i + 1) b) ≡ take (2 * i) w ++ (a ∷ b ∷ [])
pair_front w i a b h =
    let e : set (set w (2 * i) a) (2 * i + 1) b ≡ sets w (2 * i) (a ∷ b ∷ []) = rw (add-one (2 * i)) in
    let n : length (take (2 * i) w ++ (a ∷ b ∷ [])) ≡ 2 * (i + 1) = length-append (take (2 * i) w) (a ∷ b ∷ []) ∙ omega (arith, length-take-le (2 * i) w (omega arith)) in
    ap (take (2 * (i + 1))) (e ∙ sets-eq (a ∷ b ∷ []) w (2 * i) h) ∙ take_at (take (2 * i) w ++ (a ∷ b ∷ [])) (drop (2 * i + 2) w) (2 * (i + 1)) n

records_step : (v n : ℕ) → variable_records v (suc n) ≡ pos v ∷ pos 0 ∷ variable_records (suc v) n
unfolding variable_records
records_step v n = refl

pub own_step : {w₀ w : List ℤ} {v i : ℕ} {a b : ℤ} → Owning w₀ v w i → i < v → a ≡ pos (i + 1) → b ≡ pos 0 → Owning w₀ v (set (set w (2 * i) a) (2 * i + 1) b) (i + 1)
own_step {w₀} {w} {v} {i} {a} {b} f h ea eb =
    let two : 2 * i + 2 ≤ length w = omega (arith, f.small, f.room) in
    let q : v - i ≡ suc (v - (i + 1)) = omega arith in
    record {
      within = omega arith;
      small = f.small;
      room = simp length-set f.room;
      size = length-set (set w (2 * i) a) (2 * i + 1) b ∙ length-set w (2 * i) a ∙ f.size;
      front = f.front ∙ ap (λ (k : ℕ). take (2 * i) w ++ variable_records (i + 1) k) q
          ∙ ap (λ (d : List ℤ). take (2 * i) w ++ d) (records_step (i + 1) (v - (i + 1)) ∙ (λ j. sym ea j ∷ sym eb j ∷ variable_records (sym (add-one (i + 1)) j) (v - (i + 1))))
          ∙ sym (append_assoc (take (2 * i) w) (a ∷ b ∷ []) (variable_records (i + 1 + 1) (v - (i + 1))))
          ∙ ap (λ (d : List ℤ). d ++ variable_records (i + 1 + 1) (v - (i + 1))) (sym (pair_front w i a b two));
      beyond = drop-set-lt 2048 (set w (2 * i) a) (2 * i + 1) b (omega (arith, f.small)) ∙ drop-set-lt 2048 w (2 * i) a (omega (arith, f.small)) ∙ f.beyond;
    }

pub own_end : {w₀ w : List ℤ} {v i : ℕ} → Owning w₀ v w i → v ≤ i → cleared (pos 0) w (2 * v) 2048 ≡ filled (pos 0) 2048 (variable_records 1 v) w₀
unfolding variable_records
own_end {w₀} {w} {v} {i} f h =
    let q : i ≡ v = omega (arith, f.within) in
    let z : v - i ≡ 0 = omega arith in
    let e : variable_records 1 v ≡ take (2 * i) w ++ variable_records (i + 1) 0 = f.front ∙ ap (λ (k : ℕ). take (2 * i) w ++ variable_records (i + 1) k) z in
    let t : take (2 * v) w ≡ variable_records 1 v = ap (λ (k : ℕ). take (2 * k) w) (sym q) ∙ sym (append-nil (take (2 * i) w)) ∙ sym e in
    cleared_filled (pos 0) w₀ w (variable_records 1 v) (2 * v) 2048 t (omega (arith, f.small, f.room)) f.beyond

-- ---- the whole load
module _ {cs : List (List ℤ)} {c₀ : List ℕ} {l₀ : List ℤ} {c : List ℕ} {l : List ℤ} {p : Progress} {c₂ : List ℕ} {l₂ w₂ : List ℤ} (w₀ : List ℤ) (v n : ℕ) (times : List ℕ) (links : List ℤ) where
  pub lay_done : LaidBy cs c₀ l₀ c l p → 12288 ≤ length c₀ → 16384 ≤ length l₀
      → c₂ ≡ cleared 0 c (3 * p.clauses) 12288 → l₂ ≡ cleared (pos 0) l p.start 16384 → w₂ ≡ filled (pos 0) 2048 (variable_records 1 v) w₀
      → answered Loaded (loaded_state v n p.mark) (tables c₂ l₂ w₂ times links) ≡ accept v n cs (tables c₀ l₀ w₀ times links)
  unfolding laid
  lay_done h hc hl ec el ew =
      let pc = ec ∙ cleared_filled 0 c₀ c (clause_records 0 cs) (3 * p.clauses) 12288 h.records (omega (arith, h.within.0, h.sizes.0)) h.beyond.0 in
      let pl = el ∙ cleared_filled (pos 0) l₀ l (literal_places cs) p.start 16384 h.places (omega (arith, h.within.1, h.sizes.1)) h.beyond.1 in
      λ i. answered Loaded (loaded_state v n (h.marks i)) (tables (pc i) (pl i) (ew i) times links)

-- ---- a formula of the clauses cs by its verdict r, and the numbers that were kept of it
module _ {verdict : Result Header Refusal} {cs : List (List ℤ)} {r : Result Header Refusal} {ns : List ℤ} (J : Judged verdict cs r ns) where
  -- clauses that are within the limits where they are let in can be laid
  pub judged_layable : ((v n body : ℕ) → verdict ≡ fitting v n body → (v ≤ 1024) × ((n ≤ 4096) × Within v n 16384 cs)) → (c l : ℕ) → 12288 ≤ c → 16384 ≤ l → LayableBy r ns c l
  judged_layable within c l hc hl = record { fits = fits }
    where
      fits : (v n body : ℕ) → r ≡ fitting v n body → (v ≤ 1024) × Layable n ns c l
      fits v n body e =
          let W = within v n body (sym J.is ∙ e) in
          let k = J.kept v n body e in
          (W.0, record { number = W.1.0; each = rw k (in_all v 1024 cs W.0 W.1.1.each); size = rw k W.1.1.size; clause_room = hc; literal_room = hl })

  pub judged_loads : (t : Tables) (st : State) → load_by r (clauses_kept r ns) t st ≡ load_by verdict cs t st
  judged_loads t st = by r refl
    where
      by : (x : Result Header Refusal) → r ≡ x → load_by x (clauses_kept x ns) t st ≡ load_by verdict cs t st
      by (Err q) e = ap (λ (y : Result Header Refusal). load_by y cs t st) (sym e ∙ J.is)
      by (Ok h) e = ap (λ (ds : List (List ℤ)). accept h.v h.n ds t) (J.kept h.v h.n h.body e) ∙ ap (λ (y : Result Header Refusal). load_by y cs t st) (sym e ∙ J.is)

-- a text, or a join
pub either_within : (source : Source) (v n body : ℕ) → either_verdict source ≡ fitting v n body → (v ≤ 1024) × ((n ≤ 4096) × Within v n 16384 (either_clauses source))
either_within (Text text) = text_within text.now
either_within (Joined left right links) = join_within left.now right.now links.now

pub long_agrees : (t : Tables) {b : Bool} → Decides b (Long t) → b ≡ long_ok t
unfolding long_ok
long_agrees t h = agrees h (long? t)

-- by the test of the tables' lengths
module _ (verdict : Result Header Refusal) (cs : List (List ℤ)) (t : Tables) (st : State) {b : Bool} (tested : Decides b (Long t)) where
  pub formula_short : b ≡ false → refuse Shape st t ≡ load_formula verdict cs t st
  formula_short e = rw (sym (long_agrees t tested) ∙ e, load_formula)

  pub formula_long : b ≡ true → load_by verdict cs t st ≡ load_formula verdict cs t st
  formula_long e = rw (sym (long_agrees t tested) ∙ e, load_formula)

-- on tables that are long enough
pub formula_lent : (verdict : Result Header Refusal) (cs : List (List ℤ)) (t : Tables) (st : State) → Long t → load_formula verdict cs t st ≡ load_by verdict cs t st
formula_lent verdict cs t st L = sym (formula_long verdict cs t st (says_yes L) refl)

-- what laying asks of the tables
pub long_rooms : (t : Tables) {b : Bool} → Decides b (Long t) → b ≡ true → (12288 ≤ length t.clauses) × ((16384 ≤ length t.literals) × (2048 ≤ length t.variables))
long_rooms t h e = let L : Long t = h.holds e in (L.clauses, (L.literals, L.variables))
