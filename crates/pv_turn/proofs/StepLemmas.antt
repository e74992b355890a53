-- Each kind of step keeps the rule of a turn, and tells its seat what it is to tell.
use Rattle.std.proofs.Common.{◌≡◌, ◌≢◌, ◌⊎◌, ℕ, ◌+◌, ◌-◌, ◌<◌, List, [], ◌∷◌, ◌++◌, length, set, slice_index, sym, refl, ap, ◌∙◌, subst, ⊎_elim, inl, inr, Option, Some, None, ◌==◌, arith}
use mathlib.Core.Option.{Option as Slot, some, none, some-injective}
use mathlib.Core.List.{IsPrefix}
use mathlib.Core.Logic.{dite}
use native.Mathlib.Decide.{ℕ_discrete}
use base.Growing.{prefix_refl, prefix_trans}
use prog.Atomic.{either}
use lib.ListN.{get_elem?}
use Rattle.atomic_table.specs.Table.{State, Me, Act, Allows, Splits, Joins, Final, Seen, opening, stepped, carried_after, Valid}
use Rattle.atomic_table.specs.Table.Act.{keeps, takes, gives}
use Rattle.atomic_table.proofs.Lists.{set_here, set_else, set_again, at_longer}
use Rattle.pv_turn.specs.declared.view.View.{View}
use Rattle.pv_turn.specs.Rule.{view, rests, has_value, set_back, parts_of, Fits, OthersRest, IsHome, IsFree, IsHeld, IsKept}
use Rattle.pv_turn.specs.Steps.{Takes, SetsBack, Releases, Looks}
use Rattle.pv_turn.proofs.ViewLemmas.{parts-set, parts-snoc, parts-two, fit-set, fit-snoc, fit-longer, rest-set, rest-snoc, others-set_holder, others-set, others-snoc, all_rest, within, only}

-- A table whose words and slots are known.
as_table : {S W : Type 0} (s : State S W) (words : List ℕ) (homes : List (Slot S)) → s.words ≡ words → s.homes ≡ homes
    → s ≡ record { words = words; homes = homes; views = s.views }
as_table s words homes p q i = record { words = p i; homes = q i; views = s.views }

module _ {E V : Type 0} (entries : V → List E) where
  -- What a step owes at one table.
  abbrev Owes : ℕ → ℕ → Me (Option V) (View E) → ℕ → (ℕ → ℕ) → (ℕ → Me (Option V) (View E) → Type 0) → State (Option V) (View E) → Type 0
  Owes all id me word f then s = (w : View E) × (a : Act (Option V)) × Valid s.homes me.1 a
      × IsKept entries all (stepped s word (f (slice_index s.words word)) id me.1 w a)
      × then (slice_index s.words word) (w, carried_after me.1 a)

  -- ## Taking a turn
  takes_free : (all id : ℕ) (v : View E) (s : State (Option V) (View E)) (kept : IsKept entries all s) → v.parts ≡ 1 → get_elem? s.views id ≡ some v
      → IsFree entries kept.held kept.log s.homes s.views
      → Owes all id (v, []) 0 (λ n. either (n == 0) 1 n) (Takes entries v) s
  takes_free all id v s kept one at free =
      let value = free.home.value in
      let fits = kept.fit id v at in
      let w = view (entries value) v.told has_value v.parts in
      let w_fits : Fits kept.log w = record {
        seen = subst (IsPrefix (entries value)) free.home.shows (prefix_refl (entries value));
        told = fits.told;
        unseated = λ none_left. absurd (omega arith);
      } in
      let parts : parts_of (set s.views id w) ≡ all = let changed = parts-set s.views id v w at in let sum = kept.parts in omega arith in
      let others : OthersRest id (set s.views id w) = others-set_holder s.views id w (λ place u apart there. free.resting place u there) in
      subst (Owes all id (v, []) 0 (λ n. either (n == 0) 1 n) (Takes entries v))
      (sym (as_table s (0 ∷ length kept.log ∷ []) (some (Some value) ∷ []) (kept.words ∙ ap (λ (n : ℕ). n ∷ length kept.log ∷ []) free.free) free.home.home)) (
        w,
        takes 0 (Some value),
        refl,
        record {
          held = 1;
          log = kept.log;
          words = refl;
          parts = parts;
          fit = fit-set kept.log s.views id w kept.fit w_fits;
          state = inr record {
            taken = refl;
            holder = id;
            its_view = w;
            there = set_here s.views id w (within s.views id v at);
            whole = free.home.shows;
            others = others;
            value = inl (refl, refl);
          };
        },
        ((λ _. (value, refl, subst (IsPrefix v.seen) (sym free.home.shows) fits.seen)), λ taken. absurd (taken refl)),
      )

  takes_held : (all id : ℕ) (v : View E) (s : State (Option V) (View E)) (kept : IsKept entries all s) → get_elem? s.views id ≡ some v
      → IsHeld entries kept.held kept.log s.homes s.views
      → Owes all id (v, []) 0 (λ n. either (n == 0) 1 n) (Takes entries v) s
  takes_held all id v s kept at by_other =
      let words : s.words ≡ 1 ∷ length kept.log ∷ [] = kept.words ∙ ap (λ (n : ℕ). n ∷ length kept.log ∷ []) by_other.taken in
      let same : s.views ≡ set s.views id v = sym (set_again s.views id v at) in
      let table : List (View E) → State (Option V) (View E) = λ views. record { words = 1 ∷ length kept.log ∷ []; homes = s.homes; views = views } in
      subst (Owes all id (v, []) 0 (λ n. either (n == 0) 1 n) (Takes entries v))
      (sym (as_table s (1 ∷ length kept.log ∷ []) s.homes words refl)) (
        v,
        keeps,
        tt,
        subst (λ (views : List (View E)). IsKept entries all (table views)) same
            (subst (IsKept entries all) (as_table s (1 ∷ length kept.log ∷ []) s.homes words refl) kept),
        ((λ free. absurd (omega arith)), λ _. refl),
      )

  pub takes_turn : (all slots id : ℕ) (v : View E) → v.parts ≡ 1
      → Allows (IsKept entries all) slots id (v, []) 0 (λ n. either (n == 0) 1 n) (Takes entries v)
  takes_turn all slots id v one s kept sized at bound =
      ⊎_elim (takes_free all id v s kept one at) (takes_held all id v s kept at) kept.state

  -- ## A seat that doesn't rest holds the turn
  -- So the turn isn't free, and the holder is this seat.
  abbrev IsHolder : ℕ → View E → State (Option V) (View E) → ℕ → List E → Type 0
  IsHolder id v s held log = (by_it : IsHeld entries held log s.homes s.views) × (by_it.holder ≡ id) × (by_it.its_view ≡ v)

  is_holder : (all id : ℕ) (v : View E) (s : State (Option V) (View E)) (kept : IsKept entries all s) → get_elem? s.views id ≡ some v
      → v.stage ≢ rests → IsHolder id v s kept.held kept.log
  is_holder all id v s kept at busy =
      ⊎_elim (λ (free : IsFree entries kept.held kept.log s.homes s.views). absurd (busy (free.resting id v at)))
      (λ (by_it : IsHeld entries kept.held kept.log s.homes s.views).
      dite (ℕ_discrete id by_it.holder)
      (λ same. (by_it, sym same, some-injective by_it.its_view v (sym by_it.there ∙ ap (get_elem? s.views) (sym same) ∙ at)))
      (λ apart. absurd (busy (by_it.others id v apart at))))
      kept.state

  -- ## Setting the value back
  -- The value that a seat has taken.
  abbrev in_hand : V → List (ℕ × Option V) → V
  in_hand other [] = other
  in_hand other ((place, None) ∷ more) = other
  in_hand other ((place, Some value) ∷ more) = value

  pub sets_back : (all slots id count : ℕ) (v : View E) (value : V) → v.stage ≡ has_value → v.parts ≡ 1
      → IsPrefix v.seen (entries value) → count ≡ length (entries value)
      → Allows (IsKept entries all) slots id (v, (0, Some value) ∷ []) 1 (λ _. count) (λ _. SetsBack entries (v, (0, Some value) ∷ []))
  sets_back all slots id count v value has one grows counted s kept sized at bound =
      let mine = is_holder all id v s kept at (λ resting. absurd (omega arith)) in
      let by_it = mine.0 in
      let w = view (entries value) v.told set_back v.parts in
      let seen_is : v.seen ≡ kept.log = ap (λ (u : View E). u.seen) (sym mine.2) ∙ by_it.whole in
      let log_grows : IsPrefix kept.log (entries value) = subst (λ log. IsPrefix log (entries value)) seen_is grows in
      let w_fits : Fits (entries value) w = record {
        seen = prefix_refl (entries value);
        told = prefix_trans v.told kept.log (entries value) (kept.fit id v at).told log_grows;
        unseated = λ none_left. absurd (omega arith);
      } in
      let parts : parts_of (set s.views id w) ≡ all = let changed = parts-set s.views id v w at in let sum = kept.parts in omega arith in
      let others : OthersRest id s.views = subst (λ holder. OthersRest holder s.views) mine.1 by_it.others in
      let out : s.homes ≡ none ∷ [] = ⊎_elim (λ (has_it : (by_it.its_view.stage ≡ has_value) × (s.homes ≡ none ∷ [])). has_it.1)
      (λ (back : (by_it.its_view.stage ≡ set_back) × IsHome entries kept.log s.homes).
      let stage = ap (λ (u : View E). u.stage) mine.2 in let there = back.0 in absurd (omega arith)) by_it.value in
      subst (Owes all id (v, (0, Some value) ∷ []) 1 (λ _. count) (λ _. SetsBack entries (v, (0, Some value) ∷ [])))
      (sym (as_table s (1 ∷ length kept.log ∷ []) (none ∷ []) (kept.words ∙ ap (λ (n : ℕ). n ∷ length kept.log ∷ []) by_it.taken) out)) (
        w,
        gives,
        tt,
        record {
          held = 1;
          log = entries value;
          words = ap (λ (n : ℕ). 1 ∷ n ∷ []) counted;
          parts = parts;
          fit = fit-set (entries value) s.views id w (fit-longer kept.log (entries value) s.views log_grows kept.fit) w_fits;
          state = inr record {
            taken = refl;
            holder = id;
            its_view = w;
            there = set_here s.views id w (within s.views id v at);
            whole = refl;
            others = others-set_holder s.views id w others;
            value = inr (refl, record { value = value; home = refl; shows = refl });
          };
        },
        (λ other is. ap (λ (x : V). (view (entries x) v.told set_back v.parts, [])) (ap (in_hand value) is)),
      )

  -- ## Releasing the turn
  pub releases_turn : (all slots id : ℕ) (v : View E) → v.stage ≡ set_back → v.parts ≡ 1
      → Allows (IsKept entries all) slots id (v, []) 0 (λ _. 0) (λ _. Releases v)
  releases_turn all slots id v back one s kept sized at bound =
      let mine = is_holder all id v s kept at (λ resting. absurd (omega arith)) in
      let by_it = mine.0 in
      let w = view v.seen v.told rests v.parts in
      let fits = kept.fit id v at in
      let parts : parts_of (set s.views id w) ≡ all = let changed = parts-set s.views id v w at in let sum = kept.parts in omega arith in
      let others : OthersRest id s.views = subst (λ holder. OthersRest holder s.views) mine.1 by_it.others in
      let home : IsHome entries kept.log s.homes = ⊎_elim
      (λ (has_it : (by_it.its_view.stage ≡ has_value) × (s.homes ≡ none ∷ [])).
      let stage = ap (λ (u : View E). u.stage) mine.2 in let there = has_it.0 in absurd (omega arith))
      (λ (is_back : (by_it.its_view.stage ≡ set_back) × IsHome entries kept.log s.homes). is_back.1) by_it.value in
      subst (Owes all id (v, []) 0 (λ _. 0) (λ _. Releases v))
      (sym (as_table s (1 ∷ length kept.log ∷ []) s.homes (kept.words ∙ ap (λ (n : ℕ). n ∷ length kept.log ∷ []) by_it.taken) refl)) (
        w,
        keeps,
        tt,
        record {
          held = 0;
          log = kept.log;
          words = refl;
          parts = parts;
          fit = fit-set kept.log s.views id w kept.fit record { seen = fits.seen; told = fits.told; unseated = λ _. refl };
          state = inl record { free = refl; resting = all_rest s.views id w others refl; home = home };
        },
        refl,
      )

  -- ## Seats that rest change
  -- The turn stays as it is where a seat that rests, and goes on resting, changes its view.
  stays : (held : ℕ) (log : List E) (homes : List (Slot (Option V))) (views : List (View E)) (id : ℕ) (v w : View E)
      → get_elem? views id ≡ some v → v.stage ≡ rests → w.stage ≡ rests
      → IsFree entries held log homes views ⊎ IsHeld entries held log homes views
      → IsFree entries held log homes (set views id w) ⊎ IsHeld entries held log homes (set views id w)
  stays held log homes views id v w at resting goes_on =
      ⊎_elim (λ (free : IsFree entries held log homes views).
      inl record { free = free.free; resting = rest-set views id w free.resting goes_on; home = free.home })
      (λ (by_other : IsHeld entries held log homes views).
      let apart : by_other.holder ≢ id = λ same.
      let is_it = ap (λ (u : View E). u.stage) (some-injective by_other.its_view v (sym by_other.there ∙ ap (get_elem? views) same ∙ at)) in
      ⊎_elim (λ (has_it : (by_other.its_view.stage ≡ has_value) × (homes ≡ none ∷ [])). let there = has_it.0 in absurd (omega arith))
      (λ (is_back : (by_other.its_view.stage ≡ set_back) × IsHome entries log homes). let there = is_back.0 in absurd (omega arith)) by_other.value in
      inr record {
        taken = by_other.taken;
        holder = by_other.holder;
        its_view = by_other.its_view;
        there = set_else views id by_other.holder w apart ∙ by_other.there;
        whole = by_other.whole;
        others = others-set views by_other.holder id w by_other.others goes_on;
        value = by_other.value;
      })

  -- It stays where a seat that rests is added.
  stays_added : (held : ℕ) (log : List E) (homes : List (Slot (Option V))) (views : List (View E)) (w : View E) → w.stage ≡ rests
      → IsFree entries held log homes views ⊎ IsHeld entries held log homes views
      → IsFree entries held log homes (views ++ w ∷ []) ⊎ IsHeld entries held log homes (views ++ w ∷ [])
  stays_added held log homes views w resting =
      ⊎_elim (λ (free : IsFree entries held log homes views).
      inl record { free = free.free; resting = rest-snoc views w free.resting resting; home = free.home })
      (λ (by_other : IsHeld entries held log homes views).
      inr record {
        taken = by_other.taken;
        holder = by_other.holder;
        its_view = by_other.its_view;
        there = at_longer views (w ∷ []) by_other.holder by_other.its_view by_other.there;
        whole = by_other.whole;
        others = others-snoc views by_other.holder w by_other.others resting;
        value = by_other.value;
      })

  -- ## Looking at the count
  pub looks : (all slots id : ℕ) (v : View E) → v.stage ≡ rests → Allows (IsKept entries all) slots id (v, []) 1 (λ n. n) (λ _. Looks v)
  looks all slots id v resting s kept sized at bound =
      let w = view kept.log v.told rests v.parts in
      let fits = kept.fit id v at in
      let parts : parts_of (set s.views id w) ≡ all = let changed = parts-set s.views id v w at in let sum = kept.parts in omega arith in
      subst (Owes all id (v, []) 1 (λ n. n) (λ _. Looks v))
      (sym (as_table s (kept.held ∷ length kept.log ∷ []) s.homes kept.words refl)) (
        w,
        keeps,
        tt,
        record {
          held = kept.held;
          log = kept.log;
          words = refl;
          parts = parts;
          fit = fit-set kept.log s.views id w kept.fit record { seen = prefix_refl kept.log; told = fits.told; unseated = λ _. refl };
          state = stays kept.held kept.log s.homes s.views id v w at resting refl kept.state;
        },
        (kept.log, refl, fits.seen, fits.told),
      )

  -- ## Splitting a seat, and joining two
  pub splits_seat : (all id : ℕ) (v : View E) → v.stage ≡ rests → 0 < v.parts
      → Splits (IsKept entries all) id v (view v.seen v.told rests (v.parts - 1)) (view v.seen v.told rests 1)
  splits_seat all id v resting some_left s kept at =
      let left = view v.seen v.told rests (v.parts - 1) in
      let right = view v.seen v.told rests 1 in
      let fits = kept.fit id v at in
      let views = set s.views id left in
      let parts : parts_of (views ++ right ∷ []) ≡ all =
      let changed = parts-set s.views id v left at in let added = parts-snoc views right in let sum = kept.parts in omega arith in
      record {
        held = kept.held;
        log = kept.log;
        words = kept.words;
        parts = parts;
        fit = fit-snoc kept.log views right
            (fit-set kept.log s.views id left kept.fit record { seen = fits.seen; told = fits.told; unseated = λ _. refl })
            record { seen = fits.seen; told = fits.told; unseated = λ _. refl };
        state = stays_added kept.held kept.log s.homes views right refl
            (stays kept.held kept.log s.homes s.views id v left at resting refl kept.state);
      }

  pub joins_seat : (all id other : ℕ) (v w : View E) → v.stage ≡ rests → w.stage ≡ rests
      → Joins (IsKept entries all) id v other w (view v.seen w.seen rests (v.parts + w.parts)) (view [] [] rests 0)
  joins_seat all id other v w resting other_rests s kept at apart there =
      let both = view v.seen w.seen rests (v.parts + w.parts) in
      let spent : View E = view [] [] rests 0 in
      let views = set s.views id both in
      let its_place : get_elem? s.views other ≡ some w = sym (set_else s.views id other both apart) ∙ there in
      let fits = kept.fit id v at in
      let parts : parts_of (set views other spent) ≡ all =
      let joined = parts-set s.views id v both at in let emptied = parts-set views other w spent there in let sum = kept.parts in omega arith in
      record {
        held = kept.held;
        log = kept.log;
        words = kept.words;
        parts = parts;
        fit = fit-set kept.log views other spent
            (fit-set kept.log s.views id both kept.fit record { seen = fits.seen; told = (kept.fit other w its_place).seen; unseated = λ _. refl })
            record { seen = (kept.log, refl); told = (kept.log, refl); unseated = λ _. refl };
        state = stays kept.held kept.log s.homes views other w spent there other_rests refl
            (stays kept.held kept.log s.homes s.views id v both at resting refl kept.state);
      }

  -- ## The first table and the last
  pub opens : (seats count : ℕ) (value : V) → count ≡ length (entries value)
      → IsKept entries seats (opening (0 ∷ count ∷ []) (Some value ∷ []) (view (entries value) [] rests seats))
  opens seats count value counted =
      let v = view (entries value) [] rests seats in
      let fits : Fits (entries value) v = record { seen = prefix_refl (entries value); told = (entries value, refl); unseated = λ _. refl } in
      record {
        held = 0;
        log = entries value;
        words = ap (λ (n : ℕ). 0 ∷ n ∷ []) counted;
        parts = omega arith;
        fit = λ place u at. only v (Fits (entries value)) fits place u at;
        state = inl record {
          free = refl;
          resting = λ place u at. only v (λ (x : View E). x.stage ≡ rests) refl place u at;
          home = record { value = value; home = refl; shows = refl };
        };
      }

  -- When the last seat stands for all seats and rests, nobody holds the turn.
  pub closes : (all id : ℕ) (v : View E) (words : List ℕ) (slots : List (Option V)) (found : Option V) → v.stage ≡ rests → v.parts ≡ all
      → Final (Seen (IsKept entries all) id v) words slots → get_elem? slots 0 ≡ some found
      → (value : V) × (found ≡ Some value) × IsPrefix v.seen (entries value)
  closes all id v words slots found resting whole final taken =
      let s = final.0 in
      let kept : IsKept entries all s = final.1.0 in
      let at : get_elem? s.views id ≡ some v = final.1.1 in
      ⊎_elim
      (λ (free : IsFree entries kept.held kept.log s.homes s.views).
      let value = free.home.value in
      let here : get_elem? s.homes 0 ≡ some (some (Some value)) = ap (λ (homes : List (Slot (Option V))). get_elem? homes 0) free.home.home in (
        value,
        some-injective found (Some value) (sym taken ∙ final.4 0 (Some value) here),
        subst (IsPrefix v.seen) (sym free.home.shows) (kept.fit id v at).seen,
      ))
      (λ (by_other : IsHeld entries kept.held kept.log s.homes s.views).
      let busy : by_other.its_view.stage ≢ rests = λ idle. ⊎_elim
      (λ (has_it : (by_other.its_view.stage ≡ has_value) × (s.homes ≡ none ∷ [])). let there = has_it.0 in absurd (omega arith))
      (λ (is_back : (by_other.its_view.stage ≡ set_back) × IsHome entries kept.log s.homes). let there = is_back.0 in absurd (omega arith))
      by_other.value in
      dite (ℕ_discrete by_other.holder id)
      (λ same. absurd (busy (ap (λ (u : View E). u.stage)
      (some-injective by_other.its_view v (sym by_other.there ∙ ap (get_elem? s.views) same ∙ at)) ∙ resting)))
      (λ apart.
      let two = parts-two s.views by_other.holder id by_other.its_view v apart by_other.there at in
      let sum = kept.parts in
      absurd (busy ((kept.fit by_other.holder by_other.its_view by_other.there).unseated (omega arith)))))
      kept.state

  pub one_value : (value other : V) → Some value ≡ Some other → value ≡ other
  one_value value other is = ap (λ found. in_hand value ((0, found) ∷ [])) is

  -- ## The same, of a seat whose slots are known by an equation
  pub takes_turn_at : (all slots id : ℕ) (m : Me (Option V) (View E)) → m.0.parts ≡ 1 → m.1 ≡ []
      → Allows (IsKept entries all) slots id m 0 (λ n. either (n == 0) 1 n) (Takes entries m.0)
  takes_turn_at all slots id m one nothing =
      subst (λ held. Allows (IsKept entries all) slots id (m.0, held) 0 (λ n. either (n == 0) 1 n) (Takes entries m.0)) (sym nothing)
      (takes_turn all slots id m.0 one)

  pub sets_back_at : (all slots id count : ℕ) (m : Me (Option V) (View E)) (value : V) → m.0.stage ≡ has_value → m.0.parts ≡ 1
      → IsPrefix m.0.seen (entries value) → count ≡ length (entries value) → m.1 ≡ (0, Some value) ∷ []
      → Allows (IsKept entries all) slots id m 1 (λ _. count) (λ _. SetsBack entries m)
  sets_back_at all slots id count m value has one grows counted held =
      subst (λ hand. Allows (IsKept entries all) slots id (m.0, hand) 1 (λ _. count) (λ _. SetsBack entries (m.0, hand))) (sym held)
      (sets_back all slots id count m.0 value has one grows counted)

  pub releases_turn_at : (all slots id : ℕ) (m : Me (Option V) (View E)) → m.0.stage ≡ set_back → m.0.parts ≡ 1 → m.1 ≡ []
      → Allows (IsKept entries all) slots id m 0 (λ _. 0) (λ _. Releases m.0)
  releases_turn_at all slots id m back one nothing =
      subst (λ hand. Allows (IsKept entries all) slots id (m.0, hand) 0 (λ _. 0) (λ _. Releases m.0)) (sym nothing)
      (releases_turn all slots id m.0 back one)

  pub looks_at : (all slots id : ℕ) (m : Me (Option V) (View E)) → m.0.stage ≡ rests → m.1 ≡ []
      → Allows (IsKept entries all) slots id m 1 (λ n. n) (λ _. Looks m.0)
  looks_at all slots id m resting nothing =
      subst (λ hand. Allows (IsKept entries all) slots id (m.0, hand) 1 (λ n. n) (λ _. Looks m.0)) (sym nothing)
      (looks all slots id m.0 resting)
