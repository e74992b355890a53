-- How a log whose journal a host writes grows.
use Rattle.std.proofs.Common.{◌≡◌, ◌≢◌, ◌⊎◌, inl, inr, ⊎_elim, ℕ, ◌+◌, ◌-◌, ◌≤◌, List, [], ◌∷◌, ◌++◌, Option, Some, None, length, take, arith, sym, ◌∙◌, ap, subst, append_assoc, append-nil, length-append, refl, Bool, true, false, not, Result, Ok, Err, ◌<◌, ◌^◌}
use Rattle.std.specs.Prelude.{MatchBool, IfErr}
use Rattle.std.specs.List.{flat_map}
use Rattle.std.specs.Option.{option_map}
use Rattle.std.proofs.lemmas.List.{take-append-le, take_all}
use Rattle.std.proofs.lemmas.List.Sums.{sum_by-append, sum_by-cons}
use Rattle.std.proofs.lemmas.Bool.{cases_lt}
use Rattle.byteorder.specs.Endian.{big_bytes}
use Rattle.pv_base.specs.BigEndian.{big_endian}
use Rattle.pv_base.proofs.BigEndianLemmas.{bytes_high_first-big_endian}
use Rattle.pv_base.specs.Answer.{Answers}
use Rattle.pv_base.specs.Fault.{Rose}
use Rattle.pv_disk.specs.MemDisk.{MemGoes, MemState}
use Rattle.pv_disk.specs.MemLaws.{mem_model}
use Rattle.pv_disk.specs.declared.disk_error.LookError.{LookError}
use Rattle.pv_disk.specs.declared.disk_error.LookError.TheVariants.{Failed, NotOurs, NoMemory}
use Rattle.pv_journal.specs.Reading.{LooksBy}
use Rattle.pv_disk_model.specs.Calls.{LogCall, OnlyReads, append, read_all, reserve}
use Rattle.pv_disk_model.specs.Log.{LeavesOnly, IsBeforeOrAfter, Adds, StaysUp}
use Rattle.pv_disk_model.specs.Size.{Contents, size_of}
use Rattle.pv_format.specs.Journal.{framed, end_of}
use Rattle.pv_law_journal.proofs.SizeLemmas.{length-framed, end_of-size}
use Rattle.pv_host.specs.HostLog.{HostGoes, HostState, HostWrite, WasHeld, IsSameBesideRoom, asked_after, behind_gate_of, contents_of, fitting, group_of, least_write, left_of, next_write, with_asked, with_content, write_after}
use Rattle.pv_host.specs.HostLaws.{host_model, held_now, faults_of}
use Rattle.pv_host.proofs.GroupLemmas.{fitting-nothing, group-all}
use Rattle.pv_host.specs.Waiting.{WaitingState, first_length}

-- What the kit writes of a number.
pub written_four : (number : ℕ) → big_bytes 4 number ≡ big_endian 4 number
written_four number = bytes_high_first-big_endian 4 number

-- How long a log is with some contents more.
pub size_of-join : (contents others : Contents) → size_of (contents ++ others) ≡ size_of contents + (size_of others - 9)
size_of-join contents others = omega (arith, sum_by-append (λ (c : List ℕ). 5 + length c) contents others)

pub size_of-one : (contents : Contents) (content : List ℕ) → size_of (contents ++ content ∷ []) ≡ size_of contents + (5 + length content)
size_of-one contents content =
    omega (arith, sum_by-append (λ (c : List ℕ). 5 + length c) contents (content ∷ []), sum_by-cons (λ (c : List ℕ). 5 + length c) content [])

-- A log has more bytes than records, so neither what is stored nor what is asked for is more than there is room to count.
size_of-more : (contents : Contents) → length contents ≤ size_of contents
size_of-more [] = omega arith
size_of-more (first ∷ later) = omega (arith, size_of-more later, sum_by-cons (λ (c : List ℕ). 5 + length c) first later)

pub records_within : (stored asked pending : Contents) → length stored + length asked ≤ size_of (stored ++ (asked ++ pending))
records_within stored asked pending =
    omega (arith, size_of-more (stored ++ (asked ++ pending)), length-append stored (asked ++ pending), length-append asked pending)

-- The gate after what is stored lies within the log, and so do the records after it.
pub end_within : (stored others : Contents) → end_of stored + 1 ≤ size_of (stored ++ others)
end_within stored others = omega (arith, size_of-join stored others, end_of-size stored)

pub ruleset ends = (end_within, end_of-size, size_of-one, records_within)

-- At each moment of an append a crash leaves the contents from before, or these with the new one.
pub pushed_moments : (old new : HostState) (content : List ℕ) (was : Contents) → contents_of new ≡ contents_of old ++ content ∷ [] → Some (contents_of old) ≡ Some was
    → LeavesOnly host_model old new (IsBeforeOrAfter was content)
pushed_moments old new content was grown is =
    let same : contents_of old ≡ was = cc in
    let longer : length (contents_of new) ≡ length (contents_of old) + 1 = ap length grown ∙ length-append (contents_of old) (content ∷ []) in
    let front : (k : ℕ) → k ≤ length (contents_of old) → take k (contents_of new) ≡ take k (contents_of old) =
    λ k le. ap (λ (l : Contents). take k l) grown ∙ take-append-le k (contents_of old) (content ∷ []) le in
    let whole : take (length (contents_of old) + 1) (contents_of new) ≡ contents_of old ++ content ∷ [] =
    take_all _ (contents_of new) (omega (arith, longer)) ∙ grown in
    let since : (t : ℕ) (left : Option Contents) → WasHeld new t left → WasHeld old t left ⊎ (left ≡ Some (was ++ content ∷ [])) =
    λ t left held. elim (cases_lt held.0 (length (contents_of old) + 1)) [
      | inl early ↦ inl (held.0, held.1, omega arith, held.3 ∙ ap Some (front held.0 (omega arith)))
      | inr late ↦
          let last : held.0 ≡ length (contents_of old) + 1 = omega (arith, held.2, longer) in
          inr (held.3 ∙ ap (λ k. Some (take k (contents_of new))) last ∙ ap Some whole ∙ ap (λ (l : Contents). Some (l ++ content ∷ [])) same)
    ] in
    record {
      later = omega (arith, longer);
      each = λ left held. ⊎_elim (λ was_held. inl (held_now old left was_held ∙ is)) (λ new_one. inr new_one) (since (length (contents_of old)) left held);
      before = λ t left le held. ⊎_elim (λ was_held. inl was_held) (λ new_one. inr (inr new_one)) (since t left held);
      keeps = λ t left le held. (held.0, held.1, omega (arith, held.2, longer), held.3 ∙ ap Some (sym (front held.0 held.2)));
    }

module _ (old new : HostState) (content : List ℕ) (same : IsSameBesideRoom (with_content old content) new) where
  grown : contents_of new ≡ contents_of old ++ content ∷ []
  grown =
      ap contents_of same ∙ ap (λ (l : Contents). old.stored ++ l) (sym (append_assoc old.asked old.pending (content ∷ [])))
      ∙ sym (append_assoc old.stored (old.asked ++ old.pending) (content ∷ []))

  pub adds : Adds host_model old new content
  adds = record {
    contents = λ was is. let at_first : contents_of old ≡ was = cc in ap Some grown ∙ ap (λ (l : Contents). Some (l ++ content ∷ [])) at_first;
    known = refl;
    size = ap size_of grown ∙ size_of-one (contents_of old) content;
    limit = ap (λ (log : HostState). log.limit) same;
    any_moment = λ was is. pushed_moments old new content was grown is;
    durable = λ was is left may.
        let at_first : contents_of old ≡ was = cc in may ∙ ap Some grown ∙ ap (λ (l : Contents). Some (l ++ content ∷ [])) at_first;
  }

  pub stays_up : old.is_down ≡ false → StaysUp host_model old new
  stays_up up =
      let down : new.is_down ≡ old.is_down = ap (λ (log : HostState). log.is_down) same in
      record { was_up = up; is_up = down ∙ up; faults = omega (arith, ap faults_of down) }

-- What a call makes of a log that isn't down.
pub where_up : (A B : Type 0) (down : Bool) → down ≡ false → B → MatchBool down A B
where_up A B true up is = let wrong : true ≡ false = up in cc
where_up A B false up is = is

pub ruleset appends = (adds, stays_up)

-- What a log has stored that was just opened is what was found.
pub stored_found : (found : Contents) (groups : List WaitingState) (contents : Contents) → found ≡ contents → groups ≡ []
    → found ++ flat_map (λ (waiting : WaitingState). waiting.asked) groups ≡ contents
stored_found found groups contents is none =
    ap (λ (l : List WaitingState). found ++ flat_map (λ (waiting : WaitingState). waiting.asked) l) none ∙ append-nil found ∙ is

-- What is found in a file is all that a log holds that has just been opened on it.
pub all_found : (found asked pending contents : Contents) → found ≡ contents → asked ≡ [] → pending ≡ [] → found ++ (asked ++ pending) ≡ contents
all_found found asked pending contents is none nothing =
    ap (λ (l : Contents). found ++ (l ++ pending)) none ∙ ap (λ (l : Contents). found ++ l) nothing ∙ append-nil found ∙ is

pub end_found : (found contents : Contents) (size : ℕ) → found ≡ contents → size ≡ size_of contents → size - 1 ≡ end_of found
end_found found contents size is sized = let end : size - 1 ≡ end_of contents = omega (arith, sized, end_of-size contents) in end ∙ ap end_of (sym is)

-- An error that tells of one call tells as much of another.
pub told_on : {V F X Y E : Type 0} (IsValue : V → Type 0) (IsFault : F → Type 0) (value_of : X → V) (other_of : Y → V) (fault_of : E → Option F) (e : E)
    → Answers IsValue IsFault value_of fault_of (Err e) → Answers IsValue IsFault other_of fault_of (Err e)
told_on IsValue IsFault value_of other_of fault_of e answer =
    record { one = answer.one; given = tt; gives = answer.gives; refused = answer.refused; refuses = answer.refuses }

-- No reading of a disk in memory fails on which no read is to fail: nothing counts a fault.
pub never_failed : {X : Type 0} (looks : (old new : MemState) → OnlyReads MemGoes old new → old.arms.fail_read ≡ None → new ≡ old) (old new : MemState) (result : Result X LookError)
    → old.arms.fail_read ≡ None → old.faults ≡ 0 → LooksBy mem_model old new result → IfErr result (λ error. error ≢ Failed)
never_failed looks old new (Ok x) unarmed none looked = tt
never_failed looks old new (Err Failed) unarmed none looked =
    let same : new.faults ≡ old.faults = ap (λ (disk : MemState). disk.faults) (looks old new looked.0.reads unarmed) in
    let rose : Rose 0 new.faults = subst (λ faults. Rose faults new.faults) none looked.1 in
    absurd (omega (arith, rose, same, none))
never_failed looks old new (Err (NotOurs place)) unarmed none looked = λ is. cc
never_failed looks old new (Err NoMemory) unarmed none looked = λ is. cc

either_way : (A B C : Type 0) (down : Bool) → (A → C) → (B → C) → MatchBool down A B → C
either_way A B C true where_down where_up is = where_down is
either_way A B C false where_down where_up is = where_up is

-- No call of the log stores anything.
pub called_stores : (old new : HostState) (call : LogCall) (ok : Bool) → HostGoes old call ok new → new.stored ≡ old.stored
called_stores old new read_all ok goes =
    either_way ((ok ≡ false) × (new ≡ old)) ((ok ≡ not old.is_read) × (new ≡ record old { is_read = true; is_down = old.is_read })) (new.stored ≡ old.stored) old.is_down
    (λ down. ap (λ (log : HostState). log.stored) down.1) (λ up. ap (λ (log : HostState). log.stored) up.1) goes
called_stores old new (reserve content) ok goes = ap (λ (log : HostState). log.stored) goes
called_stores old new (append content) ok goes =
    either_way ((ok ≡ false) × (new ≡ old)) ((length content < 2 ^ 32) × (ok ≡ true) × IsSameBesideRoom (with_content old content) new) (new.stored ≡ old.stored) old.is_down
    (λ down. ap (λ (log : HostState). log.stored) down.1) (λ up. ap (λ (log : HostState). log.stored) up.2) goes

-- ## Asking
-- Where there is no group one is made; else the log is as it was.
pub asks_first : (room : ℕ) (log : HostState) → log.asked ≡ []
    → with_asked room log ≡ record log { asked = group_of room log.pending; pending = left_of room log.pending }
asks_first room log none = ap (asked_after room log) none

asks_by : (room : ℕ) (log : HostState) (asked : Contents) → (asked ≡ [] → ⊥) → asked_after room log asked ≡ log
asks_by room log [] some = absurd (some refl)
asks_by room log (first ∷ later) some = refl

pub asks_again : (room : ℕ) (log : HostState) → (log.asked ≡ [] → ⊥) → with_asked room log ≡ log
asks_again room log some = asks_by room log log.asked some

asked_keeps_by : (room : ℕ) (log : HostState) (asked : Contents) → log.asked ≡ asked → contents_of (asked_after room log asked) ≡ contents_of log
asked_keeps_by room log [] is =
    ap (λ (l : Contents). log.stored ++ l) (group-all room log.pending) ∙ ap (λ (l : Contents). log.stored ++ (l ++ log.pending)) (sym is)
asked_keeps_by room log (first ∷ later) is = refl

-- What the log holds is the same where the host is asked to write.
pub asked_keeps : (log : HostState) (room : ℕ) → contents_of (with_asked room log) ≡ contents_of log
asked_keeps log room = asked_keeps_by room log log.asked refl

-- What waits is the same once a group of it is asked for.
pub group_keeps : (stored : Contents) (old new : WaitingState) (room : ℕ) → old.asked ≡ [] → new ≡ record old { asked = group_of room old.pending; pending = left_of room old.pending }
    → stored ++ (new.asked ++ new.pending) ≡ stored ++ (old.asked ++ old.pending)
group_keeps stored old new room none is =
    ap (λ (waiting : WaitingState). stored ++ (waiting.asked ++ waiting.pending)) is ∙ ap (λ (l : Contents). stored ++ l) (group-all room old.pending)
    ∙ ap (λ (l : Contents). stored ++ (l ++ old.pending)) (sym none)

-- The least that can be written next: the gate; or the records of the group; or where there is none, the first record that waits.
least_gate_by : (stored asked : Contents) (gate : Bool) → (asked ≡ [] → ⊥) → gate ≡ true
    → option_map (λ (write : HostWrite). length write.bytes) (write_after stored asked gate) ≡ Some 1
least_gate_by stored [] gate some is = absurd (some refl)
least_gate_by stored (first ∷ later) true some is = refl
least_gate_by stored (first ∷ later) false some is = absurd cc

pub least_gate : (log : HostState) → (log.asked ≡ [] → ⊥) → log.behind_gate ≡ true → least_write log ≡ Some 1
least_gate log some behind =
    ap (λ (l : HostState). option_map (λ (write : HostWrite). length write.bytes) (next_write l)) (asks_again 0 log some)
    ∙ least_gate_by log.stored log.asked log.behind_gate some behind

least_group_by : (stored asked : Contents) (gate : Bool) → (asked ≡ [] → ⊥) → gate ≡ false
    → option_map (λ (write : HostWrite). length write.bytes) (write_after stored asked gate) ≡ Some (length (behind_gate_of asked))
least_group_by stored [] gate some is = absurd (some refl)
least_group_by stored (first ∷ later) false some is = refl
least_group_by stored (first ∷ later) true some is = absurd cc

pub least_group : (log : HostState) → (log.asked ≡ [] → ⊥) → log.behind_gate ≡ false → least_write log ≡ Some (length (behind_gate_of log.asked))
least_group log some behind =
    ap (λ (l : HostState). option_map (λ (write : HostWrite). length write.bytes) (next_write l)) (asks_again 0 log some)
    ∙ least_group_by log.stored log.asked log.behind_gate some behind

least_of : (stored pending : Contents) → option_map (λ (write : HostWrite). length write.bytes) (write_after stored (group_of 0 pending) false) ≡ first_length pending
least_of stored [] = refl
least_of stored (first ∷ later) =
    let nothing : 0 - (5 + length first) ≡ 0 = omega arith in
    ap (λ (n : ℕ). Some (length (behind_gate_of (first ∷ fitting n later)))) nothing
    ∙ ap (λ (l : Contents). Some (length (behind_gate_of (first ∷ l)))) (fitting-nothing later)
    ∙ ap Some (omega (arith, length-append (framed first) (0 ∷ []), length-framed first))

-- a group of no room: the first record alone
pub least_first : (log : HostState) → log.asked ≡ [] → log.behind_gate ≡ false → least_write log ≡ first_length log.pending
least_first log none behind =
    ap (λ (l : HostState). option_map (λ (write : HostWrite). length write.bytes) (next_write l)) (asks_first 0 log none)
    ∙ ap (λ b. option_map (λ (write : HostWrite). length write.bytes) (write_after log.stored (group_of 0 log.pending) b)) behind
    ∙ least_of log.stored log.pending

pub ruleset asks = (asks_first, asks_again, least_gate, least_group, least_first)
