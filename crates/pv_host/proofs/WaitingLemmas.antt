-- Which contents the bytes have that wait to be written.
use Rattle.std.proofs.Common.{◌≡◌, ◌≢◌, inl, inr, ℕ, ◌+◌, ◌-◌, ◌<◌, ◌≤◌, ◌^◌, List, [], ◌∷◌, ◌++◌, Option, Some, None, length, take, drop, set, arith, refl, sym, ◌∙◌, ap, subst, append_assoc, length-append, vec_len, vec_capacity}
use Rattle.std.proofs.lemmas.Bool.{cases_lt}
use Rattle.std.proofs.lemmas.List.{drop_at, length-drop, length-set, length-take, take_at, take-append-drop}
use Rattle.std.proofs.lemmas.List.Elements.{All-nil, All-head, All-push}
use Rattle.pv_disk_model.specs.Size.{Contents}
use Rattle.pv_format.specs.Journal.{AreShort, IsJournal, framed, header, record_of, records_of}
use Rattle.pv_format.specs.JournalContents.{contents_of}
use Rattle.pv_law_journal.proofs.ContentsLemmas.{contents_of-is, contents_of-journal}
use Rattle.pv_law_journal.proofs.SizeLemmas.{length-framed}
use Rattle.pv_host.proofs.GroupLemmas.{group-all, group-closed, group-some, group-within, length-behind, long-behind, none-behind, record-added, record-alone, short-parts}
use Rattle.pv_host.specs.HostLog.{behind_gate_of, group_of, left_of}
use Rattle.pv_host.specs.Waiting.{AreRecords, WaitingState, contents_behind, first_length, or_none}
use Rattle.pv_host.specs.WaitingView.{IsWaiting, waiting_of}
use Rattle.pv_host.specs.declared.waiting.Waiting.TheInside.{Inside}

-- An open gate alone is no journal.
gate-alone : (contents : Contents) → IsJournal contents (header ++ 1 ∷ []) → ⊥
gate-alone [] journal =
    let rest : 1 ∷ [] ≡ journal.gate ∷ journal.rest = ap (drop 8) journal.is in
    let opened : 1 ≡ journal.gate = cc in
    journal.closed (sym opened)
gate-alone (first ∷ later) journal =
    let rest : 1 ∷ [] ≡ records_of (first ∷ later) ++ journal.gate ∷ journal.rest = ap (drop 8) journal.is in
    omega (arith, ap length rest, length-append (records_of (first ∷ later)) (journal.gate ∷ journal.rest), length-append (record_of first) (records_of later), length-framed first)

none-alone : (found : Option Contents) → contents_of (header ++ 1 ∷ []) ≡ found → or_none found ≡ []
none-alone None is = refl
none-alone (Some contents) is = absurd (gate-alone contents (contents_of-journal contents (header ++ 1 ∷ []) is))

-- The contents of records are read from them.
pub contents-behind : (contents : Contents) (bytes : List ℕ) → AreRecords contents bytes → contents_behind bytes ≡ contents
contents-behind [] bytes records = ap (λ (l : List ℕ). or_none (contents_of (header ++ 1 ∷ l))) records.are ∙ none-alone (contents_of (header ++ 1 ∷ [])) refl
contents-behind (first ∷ later) bytes records =
    let whole : 1 ∷ bytes ≡ records_of (first ∷ later) ++ 0 ∷ [] = ap (λ (l : List ℕ). 1 ∷ l) records.are ∙ sym (append_assoc (record_of first) (records_of later) (0 ∷ [])) in
    let journal : IsJournal (first ∷ later) (header ++ 1 ∷ bytes) = record {
      short = records.short;
      gate = 0;
      rest = [];
      closed = λ is. absurd (omega (arith, is));
      is = ap (λ (l : List ℕ). header ++ l) whole;
    } in
    ap or_none (contents_of-is (first ∷ later) (header ++ 1 ∷ bytes) journal)

pub no-records : AreRecords [] []
no-records = record { are = refl; short = All-nil (λ (content : List ℕ). length content < 2 ^ 32) }

-- What waits, by what the bytes are.
pub record Waits (inside : Inside) (asked pending : Contents) : Type 0 where
  pub asked_is : (waiting_of inside).asked ≡ asked
  pub pending_is : (waiting_of inside).pending ≡ pending
  pub good : IsWaiting inside

pub waits : (inside : Inside) (asked pending : Contents) → inside.frozen ≤ length inside.bytes.items → AreRecords asked (take inside.frozen inside.bytes.items)
    → AreRecords pending (drop inside.frozen inside.bytes.items) → Waits inside asked pending
waits inside asked pending within one other =
    let first : contents_behind (take inside.frozen inside.bytes.items) ≡ asked = contents-behind asked (take inside.frozen inside.bytes.items) one in
    let second : contents_behind (drop inside.frozen inside.bytes.items) ≡ pending = contents-behind pending (drop inside.frozen inside.bytes.items) other in
    record {
      asked_is = first;
      pending_is = second;
      good = record {
        within = within;
        asked = subst (λ (c : Contents). AreRecords c (take inside.frozen inside.bytes.items)) (sym first) one;
        pending = subst (λ (c : Contents). AreRecords c (drop inside.frozen inside.bytes.items)) (sym second) other;
      };
    }

module _ (bytes : List ℕ) (frozen : ℕ) (asked pending : Contents) (within : frozen ≤ length bytes) (first : AreRecords asked (take frozen bytes))
    (others : AreRecords pending (drop frozen bytes)) where
  front-size : length (take frozen bytes) ≡ frozen
  front-size = omega (arith, length-take frozen bytes, within)

  -- Where there is no group nothing is frozen, and the other way.
  pub none-frozen : asked ≡ [] → frozen ≡ 0
  none-frozen none = let empty : take frozen bytes ≡ [] = first.are ∙ ap behind_gate_of none in omega (arith, front-size, ap length empty)

  pub none-asked : frozen ≡ 0 → asked ≡ []
  none-asked none = none-behind asked (omega (arith, ap length first.are, front-size, none))

  rest-size : length (drop frozen bytes) ≡ length bytes - frozen
  rest-size = length-drop frozen bytes

  pub none-pending : length bytes ≤ frozen → pending ≡ []
  none-pending le = none-behind pending (omega (arith, ap length others.are, rest-size, le))

  pub some-pending : frozen < length bytes → pending ≢ []
  some-pending less none = omega (arith, rest-size, less, ap length (others.are ∙ ap behind_gate_of none))

  -- One record more.
  pub one-added : (content new : List ℕ) → (frozen < length bytes → new ≡ set bytes (length bytes - 1) 1 ++ (framed content ++ 0 ∷ []))
      → (length bytes ≤ frozen → new ≡ bytes ++ (framed content ++ 0 ∷ [])) → new ≡ take frozen bytes ++ behind_gate_of (pending ++ content ∷ [])
  one-added content new opened alone =
      let cut : bytes ≡ take frozen bytes ++ behind_gate_of pending = sym (take-append-drop frozen bytes) ∙ ap (λ (l : List ℕ). take frozen bytes ++ l) others.are in
      elim (cases_lt frozen (length bytes)) [
        | inl less ↦
            opened less ∙ ap (λ (l : List ℕ). set l (length l - 1) 1 ++ (framed content ++ 0 ∷ [])) cut
            ∙ record-added (take frozen bytes) pending content (some-pending less)
        | inr le ↦
            alone (omega (arith, le)) ∙ ap (λ (l : List ℕ). l ++ (framed content ++ 0 ∷ [])) cut
            ∙ record-alone (take frozen bytes) pending content (none-pending (omega (arith, le)))
      ]

  pub first-still : (rest new : List ℕ) → new ≡ take frozen bytes ++ rest → take frozen new ≡ take frozen bytes
  first-still rest new is = ap (take frozen) is ∙ take_at (take frozen bytes) rest frozen front-size

  pub others-then : (rest new : List ℕ) → new ≡ take frozen bytes ++ rest → drop frozen new ≡ rest
  others-then rest new is = ap (drop frozen) is ∙ drop_at (take frozen bytes) rest frozen front-size

-- A group is asked for, of records of which none was.
pub group-asked : (bytes new : List ℕ) (size room : ℕ) (pending : Contents) → AreRecords pending bytes → 0 < length bytes → size ≡ length (records_of (group_of room pending))
    → new ≡ set bytes (size - 1) 0
    → AreRecords (group_of room pending) (take size new) × AreRecords (left_of room pending) (drop size new)
group-asked bytes new size room pending records some size_is is =
    let group = group_of room pending in
    let left = left_of room pending in
    let there : group ≢ [] = group-some room pending (λ none. omega (arith, some, ap length (records.are ∙ ap behind_gate_of none))) in
    let parted : new ≡ behind_gate_of group ++ behind_gate_of left =
    is ∙ ap (λ (l : List ℕ). set l (size - 1) 0) (records.are ∙ ap behind_gate_of (sym (group-all room pending)))
    ∙ ap (λ (n : ℕ). set (behind_gate_of (group ++ left)) (n - 1) 0) size_is ∙ group-closed group left there in
    let long : length (behind_gate_of group) ≡ size = length-behind group ∙ sym size_is in
    let shorts : AreShort (group ++ left) = subst AreShort (sym (group-all room pending)) records.short in (
      record { are = ap (take size) parted ∙ take_at (behind_gate_of group) (behind_gate_of left) size long; short = (short-parts group left shorts).0 },
      record { are = ap (drop size) parted ∙ drop_at (behind_gate_of group) (behind_gate_of left) size long; short = (short-parts group left shorts).1 },
    )

-- The first length that is read.
pub first-read : (pending : Contents) (bytes : List ℕ) (n : ℕ) → AreRecords pending bytes → 0 < length bytes
    → ((content more : List ℕ) → bytes ≡ framed content ++ more → length content < 2 ^ 32 → n ≡ 5 + length content) → Some n ≡ first_length pending
first-read [] bytes n records some reads = absurd (omega (arith, some, ap length records.are))
first-read (first ∷ later) bytes n records some reads =
    ap Some (reads first (records_of later ++ 0 ∷ []) records.are (All-head (λ (content : List ℕ). length content < 2 ^ 32) first later records.short))

pub long-records : (pending : Contents) (bytes : List ℕ) → AreRecords pending bytes → 0 < length bytes → 4 ≤ length bytes
long-records pending bytes records some =
    omega (arith, ap length records.are, long-behind pending (λ none. omega (arith, some, ap length (records.are ∙ ap behind_gate_of none))))

pub nothing-waits : (inside : Inside) → inside.bytes.items ≡ [] → Waits (record inside { frozen = 0 }) [] []
nothing-waits inside none =
    waits (record inside { frozen = 0 }) [] [] (omega arith) no-records (subst (λ (l : List ℕ). AreRecords [] l) (sym none) no-records)

-- ## What the calls make of it
pub view-is : (inside : Inside) (asked pending : Contents) → Waits inside asked pending
    → waiting_of inside ≡ record { asked = asked; pending = pending; room = vec_capacity inside.bytes - vec_len inside.bytes }
view-is inside asked pending are =
    let room = vec_capacity inside.bytes - vec_len inside.bytes in
    ap (λ (a : Contents). record { asked = a; pending = (waiting_of inside).pending; room = room }) are.asked_is
    ∙ ap (λ (p : Contents). record { asked = asked; pending = p; room = room }) are.pending_is

module _ (inside : Inside) (old : WaitingState) (was_is : waiting_of inside ≡ old) (was : IsWaiting inside) where
  old-asked : AreRecords old.asked (take inside.frozen inside.bytes.items)
  old-asked = subst (λ (state : WaitingState). AreRecords state.asked (take inside.frozen inside.bytes.items)) was_is was.asked

  old-pending : AreRecords old.pending (drop inside.frozen inside.bytes.items)
  old-pending = subst (λ (state : WaitingState). AreRecords state.pending (drop inside.frozen inside.bytes.items)) was_is was.pending

  pub group-dropped : (new : Inside) → new.frozen ≡ 0 → new.bytes.items ≡ drop inside.frozen inside.bytes.items → Waits new [] old.pending
  group-dropped new none is =
      waits new [] old.pending (omega (arith, none)) (subst (λ n. AreRecords [] (take n new.bytes.items)) (sym none) no-records)
      (subst (λ n. AreRecords old.pending (drop n new.bytes.items)) (sym none) (subst (λ (l : List ℕ). AreRecords old.pending l) (sym is) old-pending))

  -- Where there is no group all records are others.
  all-others : old.asked ≡ [] → inside.frozen ≡ 0
  all-others none = none-frozen inside.bytes.items inside.frozen old.asked old.pending was.within old-asked old-pending none

  pub others-are : old.asked ≡ [] → AreRecords old.pending inside.bytes.items
  others-are none = subst (λ n. AreRecords old.pending (drop n inside.bytes.items)) (all-others none) old-pending

  pub group-made : (new : Inside) (room : ℕ) → old.asked ≡ [] → 0 < length inside.bytes.items → new.frozen ≡ length (records_of (group_of room old.pending))
      → new.bytes.items ≡ set inside.bytes.items (new.frozen - 1) 0 → Waits new (group_of room old.pending) (left_of room old.pending)
  group-made new room none some size is =
      let made = group-asked inside.bytes.items new.bytes.items new.frozen room old.pending (others-are none) some size is in
      let long = group-within room old.pending in
      let same = ap length is ∙ length-set inside.bytes.items (new.frozen - 1) 0 in
      waits new (group_of room old.pending) (left_of room old.pending) (omega (arith, same, long, size, ap length (others-are none).are)) made.0 made.1

  pub nothing-made : (room : ℕ) → old.asked ≡ [] → length inside.bytes.items ≡ 0 → old ≡ record old { asked = group_of room old.pending; pending = left_of room old.pending }
  nothing-made room none empty =
      let no : old.pending ≡ [] = none-behind old.pending (omega (arith, ap length (others-are none).are, empty)) in
      ap (λ (a : Contents). record { asked = a; pending = old.pending; room = old.room }) (none ∙ ap (group_of room) (sym no))
      ∙ ap (λ (p : Contents). record { asked = group_of room old.pending; pending = p; room = old.room }) (no ∙ ap (left_of room) (sym no))

  pub record-pushed : (new : Inside) (content : List ℕ) → length content < 2 ^ 32 → new.frozen ≡ inside.frozen
      → (inside.frozen < length inside.bytes.items → new.bytes.items ≡ set inside.bytes.items (length inside.bytes.items - 1) 1 ++ (framed content ++ 0 ∷ []))
      → (length inside.bytes.items ≤ inside.frozen → new.bytes.items ≡ inside.bytes.items ++ (framed content ++ 0 ∷ []))
      → Waits new old.asked (old.pending ++ content ∷ [])
  record-pushed new content short same opened alone =
      let bytes = inside.bytes.items in
      let frozen = inside.frozen in
      let rest = behind_gate_of (old.pending ++ content ∷ []) in
      let is = one-added bytes frozen old.asked old.pending was.within old-asked old-pending content new.bytes.items opened alone in
      let first = first-still bytes frozen old.asked old.pending was.within old-asked old-pending rest new.bytes.items is in
      let others = others-then bytes frozen old.asked old.pending was.within old-asked old-pending rest new.bytes.items is in
      let long : frozen ≤ length new.bytes.items =
      omega (arith, ap length is, length-append (take frozen bytes) rest, front-size bytes frozen old.asked old.pending was.within old-asked old-pending) in
      waits new old.asked (old.pending ++ content ∷ []) (omega (arith, long, same))
      (subst (λ n. AreRecords old.asked (take n new.bytes.items)) (sym same) (subst (λ (l : List ℕ). AreRecords old.asked l) (sym first) old-asked))
      (subst (λ n. AreRecords (old.pending ++ content ∷ []) (drop n new.bytes.items)) (sym same)
      (record { are = others; short = All-push (λ (c : List ℕ). length c < 2 ^ 32) old.pending content old-pending.short short }))

-- The last gate of a group lies among the bytes.
pub group-fits : (bytes : List ℕ) (size room : ℕ) (pending : Contents) → AreRecords pending bytes → 0 < length bytes → size ≡ length (records_of (group_of room pending))
    → size - 1 < length bytes
group-fits bytes size room pending are some is = omega (arith, some, is, group-within room pending, ap length are.are)
