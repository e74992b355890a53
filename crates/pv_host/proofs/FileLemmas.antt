-- What a host's file is before and after each write, and what a crash leaves of it.
use Rattle.std.proofs.Common.{◌≡◌, ◌≢◌, inl, inr, ⊎_elim, ℕ, ◌+◌, ◌<◌, ◌^◌, Bool, true, false, List, [], ◌∷◌, ◌++◌, Some, length, take, drop, get_or, arith, refl, sym, ◌∙◌, ap, subst, append_assoc, append-nil, length-append}
use Rattle.std.specs.Prelude.{MatchBool}
use Rattle.std.proofs.lemmas.List.Sums.{sum_by-append}
use Rattle.std.proofs.lemmas.List.{take_at, drop_at, take-append-drop, drop_more}
use Rattle.std.proofs.lemmas.List.Elements.{All-push}
use Rattle.std.proofs.lemmas.Bool.{cases_eq}
use Rattle.std.proofs.lemmas.Grind.{flat_map-append}
use Rattle.pv_disk_model.specs.Disk.{overlaid, Torn}
use Rattle.pv_disk_model.specs.Calls.{LogCall, read_all, reserve, append}
use Rattle.pv_disk_model.specs.Size.{Contents}
use Rattle.pv_format.specs.Journal.{header, framed, record_of, records_of, AreShort, end_of}
use Rattle.pv_host.specs.HostFile.{StandsAtGate, StandsBehind, IsFile, MayLeave, IsStored, HoldsStored}
use Rattle.pv_host.specs.HostWrites.{IsOpenedOn}
use Rattle.pv_host.specs.HostLog.{HostGoes, HostState, HostWrite, IsSameBesideRoom, asked_after, behind_gate_of, contents_of, group_of, left_of, next_write, with_asked, with_content, with_written, write_after, written_to}
use Rattle.pv_host.proofs.GroupLemmas.{group-all, short-parts}

-- What is stored, and a group behind an open gate, are stored together.
both_stored : (stored : Contents) (first : List ℕ) (later : Contents) (more : List ℕ)
    → records_of stored ++ 1 ∷ (behind_gate_of (first ∷ later) ++ more) ≡ records_of (stored ++ first ∷ later) ++ 0 ∷ more
both_stored stored first later more =
    ap (λ (l : List ℕ). records_of stored ++ 1 ∷ l)
    (append_assoc (framed first) (records_of later ++ 0 ∷ []) more ∙ ap (λ (l : List ℕ). framed first ++ l) (append_assoc (records_of later) (0 ∷ []) more))
    ∙ ap (λ (l : List ℕ). records_of stored ++ l) (sym (append_assoc (record_of first) (records_of later) (0 ∷ more)))
    ∙ sym (append_assoc (records_of stored) (records_of (first ∷ later)) (0 ∷ more))
    ∙ ap (λ (l : List ℕ). l ++ 0 ∷ more) (sym (flat_map-append record_of stored (first ∷ later)))

module _ (log : HostState) (file : List ℕ) (is_file : IsFile log file) where
  abbrev front : List ℕ
  front = header ++ records_of log.stored

  abbrev end : ℕ
  end = end_of log.stored

  front_size : length front ≡ end
  front_size = omega (arith, length-append header (records_of log.stored))

  begun_size : length (front ++ is_file.gate ∷ []) ≡ end + 1
  begun_size = omega (arith, length-append front (is_file.gate ∷ []), front_size)

  whole : file ≡ front ++ is_file.gate ∷ is_file.rest
  whole = is_file.is ∙ sym (append_assoc header (records_of log.stored) (is_file.gate ∷ is_file.rest))

  begun : file ≡ (front ++ is_file.gate ∷ []) ++ is_file.rest
  begun = whole ∙ sym (append_assoc front (is_file.gate ∷ []) is_file.rest)

  file_front : take end file ≡ front
  file_front = ap (take end) whole ∙ take_at front (is_file.gate ∷ is_file.rest) end front_size

  file_begun : take (end + 1) file ≡ front ++ is_file.gate ∷ []
  file_begun = ap (take (end + 1)) begun ∙ take_at (front ++ is_file.gate ∷ []) is_file.rest (end + 1) begun_size

  file_behind : drop (end + 1) file ≡ is_file.rest
  file_behind = ap (drop (end + 1)) begun ∙ drop_at (front ++ is_file.gate ∷ []) is_file.rest (end + 1) begun_size

  file_long : end < length file
  file_long = omega (arith, ap length whole, length-append front (is_file.gate ∷ is_file.rest), front_size)

  -- What begins as the file does, up to the gate.
  behind : (tail : List ℕ) → (front ++ is_file.gate ∷ []) ++ tail ≡ header ++ (records_of log.stored ++ is_file.gate ∷ tail)
  behind tail = append_assoc front (is_file.gate ∷ []) tail ∙ append_assoc header (records_of log.stored) (is_file.gate ∷ tail)

  -- What stands at the gate where there is a group to write.
  stands_at : (first : List ℕ) (later asked : Contents) (behind_gate : Bool) (gate : ℕ) (rest more : List ℕ) → asked ≡ first ∷ later → behind_gate ≡ true
      → rest ≡ behind_gate_of (first ∷ later) ++ more → StandsAtGate asked behind_gate gate rest
  stands_at first later asked behind_gate gate rest more asked_is gate_is is =
      subst (λ b. StandsAtGate asked b gate rest) (sym gate_is) (subst (λ c. StandsBehind c rest) (sym asked_is) (more, is))

  stands_behind : (first : List ℕ) (later : Contents) → log.asked ≡ first ∷ later → log.behind_gate ≡ true
      → (more : List ℕ) × (is_file.rest ≡ behind_gate_of (first ∷ later) ++ more)
  stands_behind first later asked_is gate_is =
      subst (λ c. StandsBehind c is_file.rest) asked_is (subst (λ b. StandsAtGate log.asked b is_file.gate is_file.rest) gate_is is_file.at_gate)

  -- The group written behind the gate.
  group_written : (first : List ℕ) (later : Contents) (new : HostState) → log.asked ≡ first ∷ later → new.stored ≡ log.stored → AreShort (contents_of new)
      → new.asked ≡ log.asked → new.behind_gate ≡ true → IsFile new (overlaid file (end + 1) (behind_gate_of (first ∷ later)))
  group_written first later new asked_is stored short same gate =
      let bytes = behind_gate_of (first ∷ later) in
      let tail = drop (end + 1 + length bytes) file in
      let made : overlaid file (end + 1) bytes ≡ header ++ (records_of log.stored ++ is_file.gate ∷ (bytes ++ tail)) =
      ap (λ (l : List ℕ). l ++ (bytes ++ tail)) file_begun ∙ behind (bytes ++ tail) in
      record {
        short = short;
        gate = is_file.gate;
        rest = bytes ++ tail;
        is = made ∙ ap (λ (c : Contents). header ++ (records_of c ++ is_file.gate ∷ (bytes ++ tail))) (sym stored);
        at_gate = stands_at first later new.asked new.behind_gate is_file.gate (bytes ++ tail) tail (same ∙ asked_is) gate refl;
      }

  -- The gate written, open.
  gate_written : (first : List ℕ) (later : Contents) (new : HostState) → log.asked ≡ first ∷ later → log.behind_gate ≡ true → new.stored ≡ log.stored ++ first ∷ later
      → AreShort (contents_of new) → new.behind_gate ≡ false → IsFile new (overlaid file end (1 ∷ []))
  gate_written first later new asked gate stored short closed =
      let stands = stands_behind first later asked gate in
      let made : overlaid file end (1 ∷ []) ≡ front ++ 1 ∷ is_file.rest =
      ap (λ (l : List ℕ). l ++ (1 ∷ drop (end + 1) file)) file_front ∙ ap (λ (l : List ℕ). front ++ 1 ∷ l) file_behind in
      record {
        short = short;
        gate = 0;
        rest = stands.0;
        is =
            made ∙ append_assoc header (records_of log.stored) (1 ∷ is_file.rest) ∙ ap (λ (l : List ℕ). header ++ (records_of log.stored ++ 1 ∷ l)) stands.1
            ∙ ap (λ (l : List ℕ). header ++ l) (both_stored log.stored first later stands.0)
            ∙ ap (λ (c : Contents). header ++ (records_of c ++ 0 ∷ stands.0)) (sym stored);
        at_gate = subst (λ b. StandsAtGate new.asked b 0 stands.0) (sym closed) (λ zero_is_one. absurd (omega (arith, zero_is_one)));
      }

  -- Any bytes behind the closed gate.
  torn_record : (count : ℕ) (left : List ℕ) → log.behind_gate ≡ false → Torn (end + 1) count file left → IsFile log left
  torn_record count left closed torn = record {
    short = is_file.short;
    gate = is_file.gate;
    rest = drop (end + 1) left;
    is = sym (take-append-drop (end + 1) left) ∙ ap (λ (l : List ℕ). l ++ drop (end + 1) left) (torn.before ∙ file_begun) ∙ behind (drop (end + 1) left);
    at_gate =
        subst (λ b. StandsAtGate log.asked b is_file.gate (drop (end + 1) left)) (sym closed)
        (subst (λ b. StandsAtGate log.asked b is_file.gate is_file.rest) closed is_file.at_gate);
  }

  -- Any byte at the gate, with the group behind it.
  torn_gate : (first : List ℕ) (later : Contents) (left : List ℕ) → log.asked ≡ first ∷ later → log.behind_gate ≡ true → Torn end 1 file left → IsFile log left
  torn_gate first later left asked opening torn =
      let stands = stands_behind first later asked opening in
      let g = get_or left end 0 in
      let rest : drop end left ≡ g ∷ is_file.rest =
      drop_more left end 0 (omega (arith, file_long, torn.no_shorter)) ∙ ap (λ (l : List ℕ). g ∷ l) (torn.after ∙ file_behind) in
      record {
        short = is_file.short;
        gate = g;
        rest = is_file.rest;
        is =
            sym (take-append-drop end left) ∙ ap (λ (l : List ℕ). l ++ drop end left) (torn.before ∙ file_front) ∙ ap (λ (l : List ℕ). front ++ l) rest
            ∙ append_assoc header (records_of log.stored) (g ∷ is_file.rest);
        at_gate = stands_at first later log.asked log.behind_gate g is_file.rest stands.0 asked opening stands.1;
      }

  stored_short : AreShort log.stored
  stored_short = (short-parts log.stored (log.asked ++ log.pending) is_file.short).0

  -- What is stored and asked for, and then what waits.
  asked_short : AreShort (log.stored ++ log.asked)
  asked_short = (short-parts (log.stored ++ log.asked) log.pending (subst AreShort (sym (append_assoc log.stored log.asked log.pending)) is_file.short)).0

  -- With a closed gate the file is a journal of what is stored.
  closed_journal : is_file.gate ≢ 1 → IsStored log file
  closed_journal closed = inl (record { short = stored_short; gate = is_file.gate; rest = is_file.rest; closed = closed; is = is_file.is })

  -- With an open one it is a journal of that and the group.
  opened_journal : (first : List ℕ) (later : Contents) → log.asked ≡ first ∷ later → log.behind_gate ≡ true → is_file.gate ≡ 1 → IsStored log file
  opened_journal first later asked opening opened =
      let stands = stands_behind first later asked opening in
      inr (record {
        short = asked_short;
        gate = 0;
        rest = stands.0;
        closed = λ zero_is_one. absurd (omega (arith, zero_is_one));
        is =
            is_file.is ∙ ap (λ g. header ++ (records_of log.stored ++ g ∷ is_file.rest)) opened ∙ ap (λ (l : List ℕ). header ++ (records_of log.stored ++ 1 ∷ l)) stands.1
            ∙ ap (λ (l : List ℕ). header ++ l) (both_stored log.stored first later stands.0)
            ∙ ap (λ (c : Contents). header ++ (records_of (log.stored ++ c) ++ 0 ∷ stands.0)) (sym asked);
      })

  journal_by : (asked : Contents) (behind_gate : Bool) → log.asked ≡ asked → log.behind_gate ≡ behind_gate → IsStored log file
  journal_by asked false asked_is gate_is = closed_journal (subst (λ b. StandsAtGate log.asked b is_file.gate is_file.rest) gate_is is_file.at_gate)
  journal_by [] true asked_is gate_is =
      absurd (subst (λ c. StandsBehind c is_file.rest) asked_is (subst (λ b. StandsAtGate log.asked b is_file.gate is_file.rest) gate_is is_file.at_gate))
  journal_by (first ∷ later) true asked_is gate_is =
      ⊎_elim (λ opened. opened_journal first later asked_is gate_is opened) (λ closed. closed_journal closed) (cases_eq is_file.gate 1)

  -- Each file is a journal of what is stored, or of that and the group.
  pub file_journal : IsStored log file
  file_journal = journal_by log.asked log.behind_gate refl refl

  written_by : (asked : Contents) (behind_gate : Bool) (write : HostWrite) (bytes : ℕ) → log.asked ≡ asked → log.behind_gate ≡ behind_gate
      → write_after log.stored asked behind_gate ≡ Some write
      → IsFile (record (written_to log asked behind_gate) { bytes = bytes }) (overlaid file write.place write.bytes)
  written_by [] behind_gate write bytes asked_is gate_is is = cc
  written_by (first ∷ later) false write bytes asked_is gate_is is =
      let same : record { place = end + 1; bytes = behind_gate_of (first ∷ later) } ≡ write = cc in
      let new = record log { behind_gate = true; bytes = bytes } in
      subst (λ (w : HostWrite). IsFile new (overlaid file w.place w.bytes)) same (group_written first later new asked_is refl is_file.short refl refl)
  written_by (first ∷ later) true write bytes asked_is gate_is is =
      let same : record { place = end; bytes = 1 ∷ [] } ≡ write = cc in
      let new = record log { stored = log.stored ++ first ∷ later; asked = []; behind_gate = false; bytes = bytes } in
      let all : contents_of log ≡ contents_of new =
      ap (λ (c : Contents). log.stored ++ (c ++ log.pending)) asked_is ∙ sym (append_assoc log.stored (first ∷ later) log.pending) in
      subst (λ (w : HostWrite). IsFile new (overlaid file w.place w.bytes)) same (gate_written first later new asked_is gate_is refl (subst AreShort all is_file.short) refl)

  -- Once the host has written what comes next.
  pub file_written : (new : HostState) (write : HostWrite) → next_write log ≡ Some write → IsSameBesideRoom (with_written log) new → IsFile new (overlaid file write.place write.bytes)
  file_written new write is same =
      subst (λ (n : HostState). IsFile n (overlaid file write.place write.bytes)) (sym same) (written_by log.asked log.behind_gate write new.bytes refl refl is)

  torn_by : (asked : Contents) (behind_gate : Bool) (write : HostWrite) (left : List ℕ) → log.asked ≡ asked → log.behind_gate ≡ behind_gate
      → write_after log.stored asked behind_gate ≡ Some write → Torn write.place (length write.bytes) file left → IsFile log left
  torn_by [] behind_gate write left asked_is gate_is is torn = cc
  torn_by (first ∷ later) false write left asked_is gate_is is torn =
      let same : write ≡ record { place = end + 1; bytes = behind_gate_of (first ∷ later) } = cc in
      torn_record (length (behind_gate_of (first ∷ later))) left gate_is (subst (λ (w : HostWrite). Torn w.place (length w.bytes) file left) same torn)
  torn_by (first ∷ later) true write left asked_is gate_is is torn =
      let same : write ≡ record { place = end; bytes = 1 ∷ [] } = cc in
      torn_gate first later left asked_is gate_is (subst (λ (w : HostWrite). Torn w.place (length w.bytes) file left) same torn)

  -- What a crash leaves.
  pub file_left : (left : List ℕ) → MayLeave log file left → IsFile log left
  file_left left (inl same) = subst (IsFile log) (sym same) is_file
  file_left left (inr writing) = torn_by log.asked log.behind_gate writing.0 left refl refl writing.1 writing.2

  -- One content more.
  pub file_added : (new : HostState) (content : List ℕ) → length content < 2 ^ 32 → IsSameBesideRoom (with_content log content) new
      → IsFile new file
  file_added new content short same =
      let added = record (with_content log content) { bytes = new.bytes } in
      let all : contents_of log ++ content ∷ [] ≡ contents_of added =
      append_assoc log.stored (log.asked ++ log.pending) (content ∷ []) ∙ ap (λ (l : Contents). log.stored ++ l) (append_assoc log.asked log.pending (content ∷ [])) in
      let is : IsFile added file = record {
        short = subst AreShort all (All-push (λ (c : List ℕ). length c < 2 ^ 32) (contents_of log) content is_file.short short);
        gate = is_file.gate;
        rest = is_file.rest;
        is = is_file.is;
        at_gate = is_file.at_gate;
      } in
      subst (λ (n : HostState). IsFile n file) (sym same) is

  -- The host is asked to write. Where there was no group nothing of one stands behind the gate, which is closed.
  asked_by : (room : ℕ) (asked : Contents) (behind_gate : Bool) → log.asked ≡ asked → log.behind_gate ≡ behind_gate → IsFile (asked_after room log asked) file
  asked_by room (first ∷ later) behind_gate asked_is gate_is = is_file
  asked_by room [] true asked_is gate_is =
      absurd (subst (λ c. StandsBehind c is_file.rest) asked_is (subst (λ b. StandsAtGate log.asked b is_file.gate is_file.rest) gate_is is_file.at_gate))
  asked_by room [] false asked_is gate_is =
      let all : contents_of log ≡ log.stored ++ (group_of room log.pending ++ left_of room log.pending) =
      ap (λ (l : Contents). log.stored ++ (l ++ log.pending)) asked_is ∙ ap (λ (l : Contents). log.stored ++ l) (sym (group-all room log.pending)) in
      let closed : is_file.gate ≢ 1 = subst (λ b. StandsAtGate log.asked b is_file.gate is_file.rest) gate_is is_file.at_gate in
      record {
        short = subst AreShort all is_file.short;
        gate = is_file.gate;
        rest = is_file.rest;
        is = is_file.is;
        at_gate = subst (λ b. StandsAtGate (group_of room log.pending) b is_file.gate is_file.rest) (sym gate_is) closed;
      }

  pub file_asked : (room : ℕ) → IsFile (with_asked room log) file
  file_asked room = asked_by room log.asked log.behind_gate refl refl

-- The file on which the log was opened.
pub file_opened : (log : HostState) (file : List ℕ) (limit : ℕ) → IsOpenedOn file limit log → IsFile log file
file_opened log file limit opened = record {
  short =
      subst (λ (c : Contents). AreShort (log.stored ++ c)) (sym (ap (λ (c : Contents). c ++ log.pending) opened.asked ∙ opened.pending))
      (subst AreShort (sym (append-nil log.stored)) opened.journal.short);
  gate = opened.journal.gate;
  rest = opened.journal.rest;
  is = opened.journal.is;
  at_gate = subst (λ b. StandsAtGate log.asked b opened.journal.gate opened.journal.rest) (sym opened.behind_gate) opened.journal.closed;
}

by_cases : {A B G : Type 0} (b : Bool) → (A → G) → (B → G) → MatchBool b A B → G
by_cases true f g is = f is
by_cases false f g is = g is

-- Each call of the log.
pub file_called : (old new : HostState) (call : LogCall) (ok : Bool) (file : List ℕ) → HostGoes old call ok new → IsFile old file → IsFile new file
file_called old new read_all ok file goes is_file =
    by_cases old.is_down (λ same. subst (λ (log : HostState). IsFile log file) (sym same.1) is_file)
    (λ read. subst (λ (log : HostState). IsFile log file) (sym read.1)
    (record { short = is_file.short; gate = is_file.gate; rest = is_file.rest; is = is_file.is; at_gate = is_file.at_gate })) goes
file_called old new (reserve content) ok file goes is_file =
    subst (λ (log : HostState). IsFile log file) (sym goes)
    (record { short = is_file.short; gate = is_file.gate; rest = is_file.rest; is = is_file.is; at_gate = is_file.at_gate })
file_called old new (append content) ok file goes is_file =
    by_cases old.is_down (λ same. subst (λ (log : HostState). IsFile log file) (sym same.1) is_file)
    (λ added. file_added old file is_file new content added.0 added.2) goes

-- Each file holds what is stored.
pub file_holds : (log : HostState) (file : List ℕ) → IsFile log file → HoldsStored log file
file_holds log file is_file =
    ⊎_elim (λ journal. record { contents = log.stored; journal = journal; later = log.asked ++ log.pending; first = refl; enough = omega arith })
    (λ journal. record {
      contents = log.stored ++ log.asked;
      journal = journal;
      later = log.pending;
      first = sym (append_assoc log.stored log.asked log.pending);
      enough = omega (arith, sum_by-append (λ (c : List ℕ). 5 + length c) log.stored log.asked);
    }) (file_journal log file is_file)
