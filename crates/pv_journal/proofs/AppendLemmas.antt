-- What a crash in each of the two writes of an append leaves.
use Rattle.std.proofs.Common.{◌≡◌, inl, inr, ℕ, ◌+◌, ◌<◌, ◌^◌, List, [], ◌∷◌, ◌++◌, Some, Result, Ok, Err, OnOk, length, take, drop, get_or, arith, refl, sym, ◌∙◌, ap, subst, append_assoc, length-append}
use Rattle.std.proofs.lemmas.List.{take_at, drop_at, take-append-drop, drop_more}
use Rattle.std.proofs.lemmas.List.Elements.{All-nil, All-cons, All-append}
use Rattle.std.proofs.lemmas.Bool.{cases_eq}
use Rattle.pv_base.specs.declared.failure.Failed.{Failed as Fault}
use Rattle.pv_disk_model.specs.DiskModel.{DiskModel}
use Rattle.pv_disk_model.specs.Disk.{overlaid, Torn, Only, LeavesOnly, LeftTorn, Syncs}
use Rattle.pv_disk_model.specs.Size.{Contents}
use Rattle.pv_disk_model.proofs.DiskLemmas.{LeavesOnly-trans, LeavesOnly-weaken}
use Rattle.pv_law_calls.proofs.LookLemmas.{still_left}
use Rattle.pv_format.specs.Journal.{header, framed, record_of, records_of, IsJournal, end_of}
use Rattle.pv_journal.specs.Appending.{StandsFor, IsReady, WritesRecord}
use Rattle.pv_law_calls.proofs.RecordLemmas.{records_of-push}

-- A journal, before its closed gate and from it on.
module _ (contents : Contents) (content bytes : List ℕ) (journal : IsJournal contents bytes) (short : length content < 2 ^ 32) where
  abbrev pub front : List ℕ
  front = header ++ records_of contents

  -- An open gate opens a whole record.
  pub opened_record : (tail : List ℕ) → IsJournal (contents ++ content ∷ []) (header ++ (records_of contents ++ 1 ∷ (framed content ++ 0 ∷ tail)))
  opened_record tail = record {
    short = All-append (λ c. length c < 2 ^ 32) contents (content ∷ []) journal.short (All-cons (λ c. length c < 2 ^ 32) content [] short (All-nil (λ c. length c < 2 ^ 32)));
    gate = 0;
    rest = tail;
    closed = λ zero_is_one. absurd (omega arith);
    is =
        ap (λ (l : List ℕ). header ++ l) (sym (append_assoc (records_of contents) (record_of content) (0 ∷ tail)))
        ∙ ap (λ (l : List ℕ). header ++ (l ++ 0 ∷ tail)) (sym (records_of-push contents content));
  }

  -- A gate opens a whole record, or it doesn't.
  gate_decides : (gate : ℕ) (tail : List ℕ) → StandsFor contents content (header ++ (records_of contents ++ gate ∷ (framed content ++ 0 ∷ tail)))
  gate_decides gate tail = elim (cases_eq gate 1) [
    | inr shut ↦ inl (record { short = journal.short; gate = gate; rest = framed content ++ 0 ∷ tail; closed = shut; is = refl })
    | inl opened ↦ inr (subst (λ g. IsJournal (contents ++ content ∷ []) (header ++ (records_of contents ++ g ∷ (framed content ++ 0 ∷ tail)))) (sym opened) (opened_record tail))
  ]

  -- What a crash in the write after the gate leaves.
  pub torn_behind : (end count : ℕ) (left : List ℕ) → end ≡ end_of contents → Torn (end + 1) count bytes left → IsJournal contents left
  torn_behind end count left gate torn =
      let start = front ++ journal.gate ∷ [] in
      let size : length start ≡ end + 1 = omega (arith, length-append front (journal.gate ∷ []), length-append header (records_of contents), gate) in
      let whole : bytes ≡ start ++ journal.rest =
      journal.is ∙ sym (append_assoc header (records_of contents) (journal.gate ∷ journal.rest)) ∙ sym (append_assoc front (journal.gate ∷ []) journal.rest) in
      let begins : take (end + 1) left ≡ start = torn.before ∙ ap (take (end + 1)) whole ∙ take_at start journal.rest (end + 1) size in
      record {
        short = journal.short;
        gate = journal.gate;
        rest = drop (end + 1) left;
        closed = journal.closed;
        is =
            sym (take-append-drop (end + 1) left) ∙ ap (λ (l : List ℕ). l ++ drop (end + 1) left) begins ∙ append_assoc front (journal.gate ∷ []) (drop (end + 1) left)
            ∙ append_assoc header (records_of contents) (journal.gate ∷ drop (end + 1) left);
      }

  -- What that write makes, with some bytes after the frame.
  pub staged_is : (end : ℕ) (frame : List ℕ) → end ≡ end_of contents → frame ≡ framed content ++ 0 ∷ []
      → (tail : List ℕ) × (overlaid bytes (end + 1) frame ≡ front ++ journal.gate ∷ (framed content ++ 0 ∷ tail))
  staged_is end frame gate is =
      let start = front ++ journal.gate ∷ [] in
      let size : length start ≡ end + 1 = omega (arith, length-append front (journal.gate ∷ []), length-append header (records_of contents), gate) in
      let whole : bytes ≡ start ++ journal.rest =
      journal.is ∙ sym (append_assoc header (records_of contents) (journal.gate ∷ journal.rest)) ∙ sym (append_assoc front (journal.gate ∷ []) journal.rest) in
      let begins : take (end + 1) bytes ≡ start = ap (take (end + 1)) whole ∙ take_at start journal.rest (end + 1) size in
      let tail = drop (end + 1 + length frame) bytes in
      let behind : frame ++ tail ≡ framed content ++ 0 ∷ tail = ap (λ (l : List ℕ). l ++ tail) is ∙ append_assoc (framed content) (0 ∷ []) tail in (
        tail,
        ap (λ (l : List ℕ). l ++ (frame ++ tail)) begins ∙ ap (λ (l : List ℕ). start ++ l) behind ∙ append_assoc front (journal.gate ∷ []) (framed content ++ 0 ∷ tail),
      )

  module _ (end : ℕ) (tail staged : List ℕ) (gate : end ≡ end_of contents) (is : staged ≡ front ++ journal.gate ∷ (framed content ++ 0 ∷ tail)) where
    abbrev pub behind : List ℕ
    behind = framed content ++ 0 ∷ tail

    front_size : length front ≡ end
    front_size = omega (arith, length-append header (records_of contents), gate)

    staged_front : take end staged ≡ front
    staged_front = ap (take end) is ∙ take_at front (journal.gate ∷ behind) end front_size

    staged_behind : drop (end + 1) staged ≡ behind
    staged_behind =
        ap (drop (end + 1)) (is ∙ sym (append_assoc front (journal.gate ∷ []) behind))
        ∙ drop_at (front ++ journal.gate ∷ []) behind (end + 1) (omega (arith, length-append front (journal.gate ∷ []), front_size))

    pub staged_long : end < length staged
    staged_long = omega (arith, ap length is, length-append front (journal.gate ∷ (framed content ++ 0 ∷ tail)), front_size)

    -- What a crash in the write of the gate leaves.
    pub torn_gate : (left : List ℕ) → Torn end 1 staged left → StandsFor contents content left
    torn_gate left torn =
        let g = get_or left end 0 in
        let rest : drop end left ≡ g ∷ behind =
        drop_more left end 0 (omega (arith, staged_long, torn.no_shorter)) ∙ ap (λ (l : List ℕ). g ∷ l) (torn.after ∙ staged_behind) in
        let whole : left ≡ header ++ (records_of contents ++ g ∷ behind) =
        sym (take-append-drop end left) ∙ ap (λ (l : List ℕ). l ++ drop end left) (torn.before ∙ staged_front) ∙ ap (λ (l : List ℕ). front ++ l) rest
        ∙ append_assoc header (records_of contents) (g ∷ behind) in
        subst (StandsFor contents content) (sym whole) (gate_decides g tail)

    -- What that write makes.
    pub opened_is : (made : List ℕ) → made ≡ overlaid staged end (1 ∷ []) → IsJournal (contents ++ content ∷ []) made
    opened_is made is_made =
        let whole : made ≡ header ++ (records_of contents ++ 1 ∷ behind) =
        is_made ∙ ap (λ (l : List ℕ). l ++ (1 ∷ drop (end + 1) staged)) staged_front ∙ ap (λ (l : List ℕ). front ++ 1 ∷ l) staged_behind ∙ append_assoc header (records_of contents) (1 ∷ behind) in
        subst (IsJournal (contents ++ content ∷ [])) (sym whole) (opened_record tail)

-- The four calls, one after another.
module _ {D : Type 0} (M : DiskModel D) (d0 : D) (end : ℕ) (frame : List ℕ) (contents : Contents) (content bytes : List ℕ) (ready : IsReady M d0 end frame contents content bytes) where
  abbrev P : List ℕ → Type 0
  P = StandsFor contents content

  pub after_write : (d1 : D) → LeavesOnly M d0 d1 (LeftTorn M d0 (end + 1) (length frame)) → LeavesOnly M d0 d1 P
  after_write d1 leaves =
      LeavesOnly-weaken M d0 d1 (LeftTorn M d0 (end + 1) (length frame)) P leaves
      (λ left torn.
      let from : torn.0 ≡ bytes = ready.durable torn.0 torn.1 in
      inl (torn_behind contents content bytes ready.journal ready.short end (length frame) left ready.gate (subst (λ (l : List ℕ). Torn (end + 1) (length frame) l left) from torn.2)))

  -- A call after which a crash leaves what it might have left before.
  pub after_quiet : (d d' : D) → LeavesOnly M d0 d P → LeavesOnly M d d' (M.may_leave d) → LeavesOnly M d0 d' P
  after_quiet d d' first second =
      LeavesOnly-trans M d0 d d' P (M.may_leave d) P first second (λ left has. has) (λ left may. still_left M d0 d P first left may)

  module _ (d2 : D) (first : LeavesOnly M d0 d2 P) (staged : M.content d2 ≡ Some (overlaid bytes (end + 1) frame)) (only : Only (overlaid bytes (end + 1) frame) (M.may_leave d2)) where
    pub after_gate_write : (d3 : D) → LeavesOnly M d2 d3 (LeftTorn M d2 end 1) → LeavesOnly M d0 d3 P
    after_gate_write d3 leaves =
        let parts = staged_is contents content bytes ready.journal ready.short end frame ready.gate ready.framed_is in
        LeavesOnly-trans M d0 d2 d3 P (LeftTorn M d2 end 1) P first leaves (λ left has. has)
        (λ left torn.
        let from : torn.0 ≡ overlaid bytes (end + 1) frame = only torn.0 torn.1 in
        torn_gate contents content bytes ready.journal ready.short end parts.0 (overlaid bytes (end + 1) frame) ready.gate parts.1 left
        (subst (λ (l : List ℕ). Torn end 1 l left) from torn.2))

    pub long_enough : end < length (overlaid bytes (end + 1) frame)
    long_enough =
        let parts = staged_is contents content bytes ready.journal ready.short end frame ready.gate ready.framed_is in
        staged_long contents content bytes ready.journal ready.short end parts.0 (overlaid bytes (end + 1) frame) ready.gate parts.1

    pub now_longer : (made : List ℕ) → made ≡ overlaid (overlaid bytes (end + 1) frame) end (1 ∷ []) → IsJournal (contents ++ content ∷ []) made
    now_longer made is =
        let parts = staged_is contents content bytes ready.journal ready.short end frame ready.gate ready.framed_is in
        opened_is contents content bytes ready.journal ready.short end parts.0 (overlaid bytes (end + 1) frame) ready.gate parts.1 made is

  -- The calls ended at an error.
  pub broken_off : {X E : Type 0} (new : D) (result : Result X E) (e : E) → result ≡ Err e → LeavesOnly M d0 new P → WritesRecord M {X = X} {E = E} d0 new contents content result
  broken_off new result e is leaves = record {
    any_moment = leaves;
    done = subst (λ r. OnOk r ((b : List ℕ) × (M.content new ≡ Some b) × IsJournal (contents ++ content ∷ []) b × Only b (M.may_leave new))) (sym is) tt;
  }

  -- The last sync.
  pub finished : {X : Type 0} (d3 d4 : D) (made : List ℕ) (result : Result X Fault) → LeavesOnly M d0 d3 P → M.content d3 ≡ Some made → IsJournal (contents ++ content ∷ []) made
      → Syncs M d3 d4 result → WritesRecord M {X = X} {E = Fault} d0 d4 contents content result
  finished d3 d4 made (Ok x) leaves is journal syncs = record {
    any_moment = after_quiet d3 d4 leaves syncs.observes.any_moment;
    done = (made, syncs.observes.content ∙ is, journal, syncs.durable made is);
  }
  finished d3 d4 made (Err e) leaves is journal syncs = record { any_moment = after_quiet d3 d4 leaves syncs.observes.any_moment; done = tt }
