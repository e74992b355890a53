-- The calls of a journal on a disk in memory, one after another, where a fault may be armed.
use Rattle.std.proofs.Common.{◌≡◌, ◌⊎◌, inl, inr, ℕ, ◌+◌, ◌-◌, ◌≤◌, ◌<◌, ◌^◌, Bool, true, false, List, [], ◌∷◌, ◌++◌, Option, Some, None, Ok, Err, length, drop, replicate, arith, refl, sym, ◌∙◌, ap, subst, append_assoc, length-append}
use Rattle.std.specs.Prelude.{if◌then◌else◌, MatchBool, nat_le, nat_lt}
use Rattle.std.proofs.lemmas.Bool.{cases_lt, true≢false, MatchBool-at_true, MatchBool-at_false}
use Rattle.std.proofs.lemmas.Bool.Decides.{nat_tests}
use Rattle.std.proofs.lemmas.List.{append-nil, drop_at, length-replicate, take_at}
use Rattle.std.proofs.lemmas.List.Elements.{All-nil}
use Rattle.pv_base.specs.declared.mode.Mode.{Mode}
use Rattle.pv_base.specs.declared.mode.Mode.TheVariants.{Lost, Kept, Torn as TornAll}
use Rattle.pv_disk_model.specs.Calls.{Makes, read, make_room, write, sync, read_all, reserve, append}
use Rattle.pv_disk_model.specs.Disk.{overlaid, Torn}
use Rattle.pv_disk_model.specs.Size.{Contents}
use Rattle.pv_disk_model.proofs.OverlayLemmas.{Torn-overlaid, Torn-trans}
use Rattle.pv_format.specs.Journal.{header, framed, records_of, IsJournal, end_of}
use Rattle.pv_law_journal.proofs.OneAnswer.{not_both, same_contents}
use Rattle.pv_disk.specs.MemDisk.{ArmsState, MemState, MemGoes}
use Rattle.pv_disk.specs.MemImage.{Moment, left_by, settled_at, written_at}
use Rattle.pv_disk.specs.MemLaws.{mem_model}
use Rattle.pv_disk.specs.declared.arms.Arm.{Arm}
use Rattle.pv_law_calls.specs.Armed.{nearer}
use Rattle.pv_law_calls.proofs.ArmedLemmas.{Fell, IsAt, either-way, reads-same, settles, synced, then-arm, then-none, wrote}
use Rattle.pv_journal.specs.Armed.{AppendsArmed, Holds, HoldsUp, SyncsArmed, contents_left, opened_in}
use Rattle.pv_journal.specs.Journal.{IsIntact, JournalGoes, frame_calls}
use Rattle.pv_journal.specs.Opening.{Formats, Opens, SyncsAndReads, empty_journal}
use Rattle.pv_journal.specs.declared.journal.Journal.{Journal}
use Rattle.pv_journal.specs.declared.open_log.OpenLog.TheVariants.{Failed, NotOurs}
use Rattle.pv_journal.proofs.AppendLemmas.{front, opened_record, staged_is, torn_behind}

-- The four calls of an append.
module _ (bytes : List ℕ) (end : ℕ) (frame : List ℕ) where
  abbrev behind-it : List ℕ
  behind-it = overlaid bytes (end + 1) frame

  abbrev opened-it : List ℕ
  opened-it = overlaid behind-it end (1 ∷ [])

  abbrev writing : Moment
  writing = written_at (settled_at bytes) (end + 1) (length frame)

  abbrev opening : Moment
  opening = written_at (settled_at behind-it) end 1

  abbrev ByCalls : Arm → Bool → MemState → Type 0
  ByCalls arm ok new =
      MatchBool (nat_le arm.left 1) (Fell arm (left_by arm.mode writing behind-it) ok new)
      (MatchBool (nat_le (arm.left - 1) 1) (Fell arm (left_by arm.mode writing behind-it) ok new)
      (MatchBool (nat_le (arm.left - 1 - 1) 1) (Fell arm (left_by arm.mode opening opened-it) ok new)
      (MatchBool (nat_le (arm.left - 1 - 1 - 1) 1) (Fell arm (left_by arm.mode opening opened-it) ok new)
      ((ok ≡ true) × IsAt opened-it (settled_at opened-it) (Some (nearer 1 (nearer 1 (nearer 1 (nearer 1 arm))))) None new))))

  four-unarmed : (old new : MemState) (ok : Bool) → IsAt bytes (settled_at bytes) None None old → Makes MemGoes old (frame_calls end frame) ok new
      → (ok ≡ true) × IsAt opened-it (settled_at opened-it) None None new
  four-unarmed old new ok is made =
      let Q = (ok ≡ true) × IsAt opened-it (settled_at opened-it) None None new in
      then-none old (write (end + 1) frame) (sync ∷ write end (1 ∷ []) ∷ sync ∷ []) ok new behind-it writing writing Q
      (λ went mid goes. wrote bytes (settled_at bytes) None old is went mid (end + 1) frame goes)
      (λ one is_one made_one.
      then-none one sync (write end (1 ∷ []) ∷ sync ∷ []) ok new behind-it writing (settled_at behind-it) Q
      (λ went mid goes. synced behind-it writing None one is_one went mid goes)
      (λ two is_two made_two.
      then-none two (write end (1 ∷ [])) (sync ∷ []) ok new opened-it opening opening Q
      (λ went mid goes. wrote behind-it (settled_at behind-it) None two is_two went mid end (1 ∷ []) goes)
      (λ three is_three made_three.
      then-none three sync [] ok new opened-it opening (settled_at opened-it) Q
      (λ went mid goes. synced opened-it opening None three is_three went mid goes)
      (λ four is_four made_four. (made_four.0, subst (IsAt opened-it (settled_at opened-it) None None) (sym made_four.1) is_four))
      made_three)
      made_two)
      made_one)
      made

  four-armed : (arm : Arm) (old new : MemState) (ok : Bool) → IsAt bytes (settled_at bytes) (Some arm) None old → Makes MemGoes old (frame_calls end frame) ok new → ByCalls arm ok new
  four-armed arm old new ok is made =
      then-arm old (write (end + 1) frame) (sync ∷ write end (1 ∷ []) ∷ sync ∷ []) ok new behind-it writing writing arm (nat_le arm.left 1) _
      (λ went mid goes. wrote bytes (settled_at bytes) (Some arm) old is went mid (end + 1) frame goes)
      (λ one is_one made_one.
      then-arm one sync (write end (1 ∷ []) ∷ sync ∷ []) ok new behind-it writing (settled_at behind-it) (nearer 1 arm) (nat_le (arm.left - 1) 1) _
      (λ went mid goes. synced behind-it writing (Some (nearer 1 arm)) one is_one went mid goes)
      (λ two is_two made_two.
      then-arm two (write end (1 ∷ [])) (sync ∷ []) ok new opened-it opening opening (nearer 1 (nearer 1 arm)) (nat_le (arm.left - 1 - 1) 1) _
      (λ went mid goes. wrote behind-it (settled_at behind-it) (Some (nearer 1 (nearer 1 arm))) two is_two went mid end (1 ∷ []) goes)
      (λ three is_three made_three.
      then-arm three sync [] ok new opened-it opening (settled_at opened-it) (nearer 1 (nearer 1 (nearer 1 arm))) (nat_le (arm.left - 1 - 1 - 1) 1) _
      (λ went mid goes. synced opened-it opening (Some (nearer 1 (nearer 1 (nearer 1 arm)))) three is_three went mid goes)
      (λ four is_four made_four.
      (made_four.0, subst (IsAt opened-it (settled_at opened-it) (Some (nearer 1 (nearer 1 (nearer 1 (nearer 1 arm))))) None) (sym made_four.1) is_four))
      made_three)
      made_two)
      made_one)
      made

-- A byte put over another one.
put-over : (start behind : List ℕ) (old new place : ℕ) → length start ≡ place → overlaid (start ++ old ∷ behind) place (new ∷ []) ≡ start ++ new ∷ behind
put-over start behind old new place size =
    let whole : start ++ old ∷ behind ≡ (start ++ old ∷ []) ++ behind = sym (append_assoc start (old ∷ []) behind) in
    let rest : drop (place + 1) (start ++ old ∷ behind) ≡ behind =
    ap (λ (l : List ℕ). drop (place + 1) l) whole ∙ drop_at (start ++ old ∷ []) behind (place + 1) (omega (arith, length-append start (old ∷ []), size)) in
    ap (λ (l : List ℕ). l ++ (new ∷ drop (place + 1) (start ++ old ∷ behind))) (take_at start (old ∷ behind) place size) ∙ ap (λ (l : List ℕ). start ++ new ∷ l) rest

-- What is left of an append that fires.
module _ (contents : Contents) (content bytes : List ℕ) (journal : IsJournal contents bytes) (short : length content < 2 ^ 32)
    (end : ℕ) (gate : end ≡ end_of contents) (frame : List ℕ) (framed_is : frame ≡ framed content ++ 0 ∷ []) where
  abbrev ahead : List ℕ
  ahead = front contents content bytes journal short

  size-ahead : length ahead ≡ end
  size-ahead = omega (arith, length-append header (records_of contents), gate)

  within : end + 1 ≤ length bytes
  within = omega (arith, ap length journal.is, length-append header (records_of contents ++ journal.gate ∷ journal.rest), length-append (records_of contents) (journal.gate ∷ journal.rest), gate)

  torn-frame : Torn (end + 1) (length frame) bytes (behind-it bytes end frame)
  torn-frame = Torn-overlaid bytes (end + 1) frame within

  -- A fill of the frame's range.
  torn-filled : Torn (end + 1) (length frame) bytes (overlaid (behind-it bytes end frame) (end + 1) (replicate (length frame) 165))
  torn-filled =
      let made = behind-it bytes end frame in
      let size : length (replicate {A = ℕ} (length frame) 165) ≡ length frame = length-replicate {A = ℕ} (length frame) 165 in
      Torn-trans (end + 1) (length frame) bytes made _ torn-frame
      (subst (λ n. Torn (end + 1) n made (overlaid made (end + 1) (replicate (length frame) 165))) size
      (Torn-overlaid made (end + 1) (replicate (length frame) 165) (omega (arith, within, torn-frame.no_shorter))))

  -- In the first two calls the gate stays closed, whatever is behind it.
  left-early : (mode : Mode) → IsJournal contents (left_by mode (writing bytes end frame) (behind-it bytes end frame))
  left-early Lost = journal
  left-early Kept = torn_behind contents content bytes journal short end (length frame) (behind-it bytes end frame) gate torn-frame
  left-early TornAll = torn_behind contents content bytes journal short end (length frame) _ gate torn-filled

  abbrev staged-tail : List ℕ
  staged-tail = (staged_is contents content bytes journal short end frame gate framed_is).0

  abbrev after-gate : List ℕ
  after-gate = framed content ++ 0 ∷ staged-tail

  staged : behind-it bytes end frame ≡ ahead ++ journal.gate ∷ after-gate
  staged = (staged_is contents content bytes journal short end frame gate framed_is).1

  opened-whole : opened-it bytes end frame ≡ ahead ++ 1 ∷ after-gate
  opened-whole = ap (λ (l : List ℕ). overlaid l end (1 ∷ [])) staged ∙ put-over ahead after-gate journal.gate 1 end size-ahead

  now-opened : IsJournal (contents ++ content ∷ []) (opened-it bytes end frame)
  now-opened =
      subst (IsJournal (contents ++ content ∷ [])) (sym (opened-whole ∙ append_assoc header (records_of contents) (1 ∷ after-gate)))
      (opened_record contents content bytes journal short staged-tail)

  -- A gate of 165 is closed.
  spoilt : IsJournal contents (overlaid (opened-it bytes end frame) end (165 ∷ []))
  spoilt = record {
    short = journal.short;
    gate = 165;
    rest = after-gate;
    closed = λ same. absurd (omega arith);
    is = ap (λ (l : List ℕ). overlaid l end (165 ∷ [])) opened-whole ∙ put-over ahead after-gate 1 165 end size-ahead
        ∙ append_assoc header (records_of contents) (165 ∷ after-gate);
  }

  -- In the last two calls the gate is closed, open or 165.
  left-late : (mode : Mode) → IsJournal (opened_in mode contents content) (left_by mode (opening bytes end frame) (opened-it bytes end frame))
  left-late Lost = left-early Kept
  left-late Kept = now-opened
  left-late TornAll = spoilt

  module _ (arm : Arm) (ok : Bool) (new : MemState) where
    fell-early : nat_lt 2 arm.left ≡ false → Fell arm (left_by arm.mode (writing bytes end frame) (behind-it bytes end frame)) ok new
        → (ok ≡ false) × Holds (contents_left contents content arm) None (Some arm.stop) new
    fell-early few (broke, is) =
        let same : contents_left contents content arm ≡ contents = ap (λ b. if b then opened_in arm.mode contents content else contents) few in (
          broke,
          subst (λ (c : Contents). Holds c None (Some arm.stop) new) (sym same)
              (record {
                journal = subst (IsJournal contents) (sym is.content_is) (left-early arm.mode);
                settled = is.now_is ∙ ap settled_at (sym is.content_is);
                armed = is.armed_is;
                fired = is.fired_is;
                reads = is.reads_is;
              }),
        )

    fell-late : nat_lt 2 arm.left ≡ true → Fell arm (left_by arm.mode (opening bytes end frame) (opened-it bytes end frame)) ok new
        → (ok ≡ false) × Holds (contents_left contents content arm) None (Some arm.stop) new
    fell-late many (broke, is) =
        let same : contents_left contents content arm ≡ opened_in arm.mode contents content = ap (λ b. if b then opened_in arm.mode contents content else contents) many in (
          broke,
          subst (λ (c : Contents). Holds c None (Some arm.stop) new) (sym same)
              (record {
                journal = subst (IsJournal (opened_in arm.mode contents content)) (sym is.content_is) (left-late arm.mode);
                settled = is.now_is ∙ ap settled_at (sym is.content_is);
                armed = is.armed_is;
                fired = is.fired_is;
                reads = is.reads_is;
              }),
        )

    made-whole : (armed : Option Arm) → (ok ≡ true) × IsAt (opened-it bytes end frame) (settled_at (opened-it bytes end frame)) armed None new
        → (ok ≡ true) × Holds (contents ++ content ∷ []) armed None new
    made-whole armed (fine, is) = (
      fine,
      record {
        journal = subst (IsJournal (contents ++ content ∷ [])) (sym is.content_is) now-opened;
        settled = is.now_is ∙ ap settled_at (sym is.content_is);
        armed = is.armed_is;
        fired = is.fired_is;
        reads = is.reads_is;
      },
    )

    abbrev Whole : Type 0
    Whole = (ok ≡ true) × Holds (contents ++ content ∷ []) (Some (nearer 4 arm)) None new

    abbrev Broken : Type 0
    Broken = (ok ≡ false) × Holds (contents_left contents content arm) None (Some arm.stop) new

    is-broken : arm.left ≤ 4 → Broken → MatchBool (nat_lt 4 arm.left) Whole Broken
    is-broken few broken = by (nat_lt 4 arm.left) (grind (arith, nat_tests, few))
      where
        by : (b : Bool) → b ≡ false → MatchBool b Whole Broken
        by false is = broken
        by true is = absurd (true≢false is)

    is-whole : 4 < arm.left → Whole → MatchBool (nat_lt 4 arm.left) Whole Broken
    is-whole many whole = by (nat_lt 4 arm.left) (grind (arith, nat_tests, many))
      where
        by : (b : Bool) → b ≡ true → MatchBool b Whole Broken
        by true is = whole
        by false is = absurd (true≢false (sym is))

    abbrev FromFourth : Type 0
    FromFourth =
        MatchBool (nat_le (arm.left - 1 - 1 - 1) 1) (Fell arm (left_by arm.mode (opening bytes end frame) (opened-it bytes end frame)) ok new)
        ((ok ≡ true) × IsAt (opened-it bytes end frame) (settled_at (opened-it bytes end frame)) (Some (nearer 1 (nearer 1 (nearer 1 (nearer 1 arm))))) None new)

    abbrev FromThird : Type 0
    FromThird = MatchBool (nat_le (arm.left - 1 - 1) 1) (Fell arm (left_by arm.mode (opening bytes end frame) (opened-it bytes end frame)) ok new) FromFourth

    abbrev FromSecond : Type 0
    FromSecond = MatchBool (nat_le (arm.left - 1) 1) (Fell arm (left_by arm.mode (writing bytes end frame) (behind-it bytes end frame)) ok new) FromThird

    -- By which of the calls fires.
    comes-to : ByCalls bytes end frame arm ok new → MatchBool (nat_lt 4 arm.left) Whole Broken
    comes-to calls = elim (cases_lt arm.left 2) [
      | inl first ↦
          let fires : nat_le arm.left 1 ≡ true = grind (arith, nat_tests, first) in
          let early : nat_lt 2 arm.left ≡ false = grind (arith, nat_tests, first) in
          is-broken (omega (arith, first)) (fell-early early (MatchBool-at_true _ _ fires calls))
      | inr later ↦
          let waits : nat_le arm.left 1 ≡ false = grind (arith, nat_tests, later) in
          from-second (omega (arith, later)) (MatchBool-at_false _ _ waits calls)
    ]
      where
        from-fourth : 4 ≤ arm.left → FromFourth → MatchBool (nat_lt 4 arm.left) Whole Broken
        from-fourth from calls = elim (cases_lt arm.left 5) [
          | inl now ↦
              let fires : nat_le (arm.left - 1 - 1 - 1) 1 ≡ true = grind (arith, nat_tests, now) in
              let late : nat_lt 2 arm.left ≡ true = grind (arith, nat_tests, from) in
              is-broken (omega (arith, now)) (fell-late late (MatchBool-at_true _ _ fires calls))
          | inr later ↦
              let waits : nat_le (arm.left - 1 - 1 - 1) 1 ≡ false = grind (arith, nat_tests, later) in
              let far : nearer 1 (nearer 1 (nearer 1 (nearer 1 arm))) ≡ nearer 4 arm = ap (λ n. record arm { left = n }) (omega arith) in
              is-whole (omega (arith, later))
              (subst (λ (a : Arm). (ok ≡ true) × Holds (contents ++ content ∷ []) (Some a) None new) far
              (made-whole (Some (nearer 1 (nearer 1 (nearer 1 (nearer 1 arm))))) (MatchBool-at_false _ _ waits calls)))
        ]

        from-third : 3 ≤ arm.left → FromThird → MatchBool (nat_lt 4 arm.left) Whole Broken
        from-third from calls = elim (cases_lt arm.left 4) [
          | inl now ↦
              let fires : nat_le (arm.left - 1 - 1) 1 ≡ true = grind (arith, nat_tests, now) in
              let late : nat_lt 2 arm.left ≡ true = grind (arith, nat_tests, from) in
              is-broken (omega (arith, now)) (fell-late late (MatchBool-at_true _ _ fires calls))
          | inr later ↦
              let waits : nat_le (arm.left - 1 - 1) 1 ≡ false = grind (arith, nat_tests, later) in
              from-fourth (omega (arith, later)) (MatchBool-at_false _ _ waits calls)
        ]

        from-second : 2 ≤ arm.left → FromSecond → MatchBool (nat_lt 4 arm.left) Whole Broken
        from-second from calls = elim (cases_lt arm.left 3) [
          | inl now ↦
              let fires : nat_le (arm.left - 1) 1 ≡ true = grind (arith, nat_tests, now) in
              let early : nat_lt 2 arm.left ≡ false = grind (arith, nat_tests, now) in
              is-broken (omega (arith, now)) (fell-early early (MatchBool-at_true _ _ fires calls))
          | inr later ↦
              let waits : nat_le (arm.left - 1) 1 ≡ false = grind (arith, nat_tests, later) in
              from-third (omega (arith, later)) (MatchBool-at_false _ _ waits calls)
        ]

-- The calls of an append, over a disk on which it stands.
frame-appended : (contents : Contents) (content : List ℕ) (armed : Option Arm) (old new : MemState) (ok : Bool) → Holds contents armed None old → length content < 2 ^ 32
    → Makes MemGoes old (frame_calls (end_of contents) (framed content ++ 0 ∷ [])) ok new → AppendsArmed contents content armed ok new
frame-appended contents content armed old new ok holds short made = by armed holds
  where
    bytes : List ℕ
    bytes = old.image.content

    by : (a : Option Arm) → Holds contents a None old → AppendsArmed contents content a ok new
    by None is =
        made-whole contents content old.image.content is.journal short (end_of contents) refl (framed content ++ 0 ∷ []) refl (record { left = 0; mode = Lost; stop = true }) ok new None
        (four-unarmed old.image.content (end_of contents) (framed content ++ 0 ∷ []) old new ok
        (record { content_is = refl; now_is = is.settled; armed_is = is.armed; fired_is = is.fired; reads_is = is.reads }) made)
    by (Some arm) is =
        comes-to contents content old.image.content is.journal short (end_of contents) refl (framed content ++ 0 ∷ []) refl arm ok new
        (four-armed old.image.content (end_of contents) (framed content ++ 0 ∷ []) arm old new ok
        (record { content_is = refl; now_is = is.settled; armed_is = is.armed; fired_is = is.fired; reads_is = is.reads }) made)

-- A sync of a journal that is synced already.
sync-settled : (contents : Contents) (armed : Option Arm) (old new : MemState) (ok : Bool) → Holds contents armed None old → MemGoes old sync ok new → SyncsArmed contents armed ok new
sync-settled contents armed old new ok holds goes = by armed holds
  where
    whole : (after : Option Arm) (fired : Option Bool) → IsAt old.image.content (settled_at old.image.content) after fired new → Holds contents after fired new
    whole after fired at = record {
      journal = subst (IsJournal contents) (sym at.content_is) holds.journal;
      settled = at.now_is ∙ ap settled_at (sym at.content_is);
      armed = at.armed_is;
      fired = at.fired_is;
      reads = at.reads_is;
    }

    at-rest : (a : Option Arm) → Holds contents a None old → IsAt old.image.content (settled_at old.image.content) a None old
    at-rest a is = record { content_is = refl; now_is = is.settled; armed_is = is.armed; fired_is = is.fired; reads_is = is.reads }

    by : (a : Option Arm) → Holds contents a None old → SyncsArmed contents a ok new
    by None is = let made = settles old.image.content old new ok goes None (at-rest None is) in (made.0, whole None None made.1)
    by (Some arm) is =
        either-way (nat_lt 1 arm.left) _ _ _ _ (λ made. (made.0, whole (Some (nearer 1 arm)) None made.1)) (λ made. (made.0, whole None (Some arm.stop) made.1))
        (settles old.image.content old new ok goes (Some arm) (at-rest (Some arm) is))

-- The calls of a journal.
module _ (contents : Contents) (armed : Option Arm) where
  pub intact-holds : (journal : Journal MemState) → IsIntact mem_model journal → journal.down ≡ false → Holds contents armed None journal.disk → HoldsUp contents armed journal
  intact-holds journal intact up holds =
      let rest = intact.at_rest up journal.disk.image.content refl in
      record {
        up = up;
        length = rest.2 ∙ ap (λ (c : Contents). end_of c + 1) (same_contents rest.0 contents journal.disk.image.content rest.1 holds.journal);
        disk = holds;
      }

  -- What was read is there still.
  pub reads-held : (old new : Journal MemState) (ok : Bool) → HoldsUp contents armed old → JournalGoes mem_model old read_all ok new
      → Holds contents armed None new.disk × (ok ≡ true → HoldsUp contents armed new)
  reads-held old new ok up (long, reads) =
      let same : new.disk ≡ old.disk = reads-same old.disk new.disk reads up.disk.reads in
      let holds = subst (Holds contents armed None) (sym same) up.disk in
      (holds, λ fine. record { up = long.down fine ∙ up.up; length = long.length ∙ up.length; disk = holds })

  room-held : (old new : MemState) (bytes writes : ℕ) (ok : Bool) → Holds contents armed None old → MemGoes old (make_room bytes writes) ok new → Holds contents armed None new
  room-held old new bytes writes ok holds now = record {
    journal = subst (IsJournal contents) (sym now.content_is) holds.journal;
    settled = now.now_is ∙ holds.settled ∙ ap settled_at (sym now.content_is);
    armed = ap (λ (a : ArmsState). a.armed) now.arms_are ∙ holds.armed;
    fired = ap (λ (a : ArmsState). a.fired) now.arms_are ∙ holds.fired;
    reads = ap (λ (a : ArmsState). a.fail_read) now.arms_are ∙ holds.reads;
  }

  rooms-held : (old new : MemState) (bytes writes : ℕ) (ok : Bool) → Holds contents armed None old → Makes MemGoes old (make_room bytes writes ∷ []) ok new → Holds contents armed None new
  rooms-held old new bytes writes ok holds (inl (broke, goes)) = room-held old new bytes writes false holds goes
  rooms-held old new bytes writes ok holds (inr (mid, goes, (fine, same))) = subst (Holds contents armed None) (sym same) (room-held old mid bytes writes true holds goes)

  reserves-held : (old new : Journal MemState) (count : ℕ) (ok : Bool) → Holds contents armed None old.disk → JournalGoes mem_model old (reserve count) ok new → Holds contents armed None new.disk
  reserves-held old new count ok holds (long, inl same) = subst (Holds contents armed None) (sym same) holds
  reserves-held old new count ok holds (long, inr made) = rooms-held old.disk new.disk (6 + count) 2 ok holds made

  append-called : (old new : Journal MemState) (content : List ℕ) (ok : Bool) → HoldsUp contents armed old → JournalGoes mem_model old (append content) ok new
      → AppendsArmed contents content armed ok new.disk
  append-called old new content ok up goes =
      let made = MatchBool-at_false _ _ up.up goes in
      let end : old.length - 1 ≡ end_of contents = omega (arith, up.length) in
      frame-appended contents content armed old.disk new.disk ok up.disk made.0
      (subst (λ n. Makes MemGoes old.disk (frame_calls n (framed content ++ 0 ∷ [])) ok new.disk) end made.1)

  -- An append with its room.
  pub appends-armed : (old new : Journal MemState) (content : List ℕ) (ok : Bool) → HoldsUp contents armed old
      → Makes (JournalGoes mem_model) old (reserve (length content) ∷ append content ∷ []) ok new
      → AppendsArmed contents content armed ok new.disk ⊎ ((ok ≡ false) × Holds contents armed None new.disk)
  appends-armed old new content ok up (inl (broke, goes)) = inr (broke, reserves-held old new (length content) false up.disk goes)
  appends-armed old new content ok up (inr (mid, goes, rest)) =
      let ready : HoldsUp contents armed mid =
      record { up = goes.0.down refl ∙ up.up; length = goes.0.length ∙ up.length; disk = reserves-held old mid (length content) true up.disk goes } in
      inl (by ready rest)
    where
      by : HoldsUp contents armed mid → Makes (JournalGoes mem_model) mid (append content ∷ []) ok new → AppendsArmed contents content armed ok new.disk
      by ready (inl (broke, failed)) = subst (λ b. AppendsArmed contents content armed b new.disk) (sym broke) (append-called mid new content false ready failed)
      by ready (inr (last, went, (fine, same))) =
          subst (λ b. AppendsArmed contents content armed b new.disk) (sym fine)
          (subst (λ (j : Journal MemState). AppendsArmed contents content armed true j.disk) (sym same) (append-called mid last content true ready went))

  -- An opening.
  synced-and-read : (old new : MemState) → Holds contents armed None old → SyncsAndReads mem_model old new → SyncsArmed contents armed true new
  synced-and-read old new holds (mid, goes, reads) =
      let made : SyncsArmed contents armed true mid = sync-settled contents armed old mid true holds goes in
      subst (SyncsArmed contents armed true) (sym (reads-same mid new reads (unread armed made))) made
    where
      unread-by : (arm : Arm) (b : Bool) → MatchBool b ((true ≡ true) × Holds contents (Some (nearer 1 arm)) None mid) ((true ≡ false) × Holds contents None (Some arm.stop) mid)
          → mid.arms.fail_read ≡ None
      unread-by arm true made = made.1.reads
      unread-by arm false made = made.1.reads

      unread : (a : Option Arm) → SyncsArmed contents a true mid → mid.arms.fail_read ≡ None
      unread None made = made.1.reads
      unread (Some arm) made = unread-by arm (nat_lt 1 arm.left) made

  -- An opening, by its answer.
  pub opens-armed : (old : MemState) (limit : ℕ) (journal : Journal MemState) → Holds contents armed None old → Opens mem_model old limit (Ok journal)
      → SyncsArmed contents armed true journal.disk
  opens-armed old limit journal holds opened = synced-and-read old journal.disk holds opened.1

  pub opening-fails : (old : MemState) (limit : ℕ) (disk : MemState) → Holds contents armed None old → Opens mem_model old limit (Err (Failed disk))
      → SyncsArmed contents armed false disk ⊎ SyncsArmed contents armed true disk
  opening-fails old limit disk holds (opened, inl goes, rose) = inl (sync-settled contents armed old disk false holds goes)
  opening-fails old limit disk holds (opened, inr calls, rose) = inr (synced-and-read old disk holds calls)

  pub opens-a-journal : (old : MemState) (limit : ℕ) (disk : MemState) (place : ℕ) → Holds contents armed None old → Opens mem_model old limit (Err (NotOurs disk place)) → ⊥
  opens-a-journal old limit disk place holds refused = not_both contents old.image.content place holds.journal (refused.3 old.image.content refl)

-- The calls that make an empty journal, where nothing is armed.
pub formats-unarmed : (old new : MemState) → old.image.content ≡ [] → old.image.now ≡ settled_at [] → old.arms.armed ≡ None → old.arms.fired ≡ None → old.arms.fail_read ≡ None
    → (x : Unit {0}) → Formats mem_model {X = Unit {0}} old new (Ok x) → Holds [] None None new
formats-unarmed old new empty settled unarmed unfired unread x formats = by formats.0.calls
  where
    here : IsAt [] (settled_at []) None None old
    here = record { content_is = empty; now_is = settled; armed_is = unarmed; fired_is = unfired; reads_is = unread }

    roomy : (mid : MemState) → MemGoes old (make_room 9 1) true mid → IsAt [] (settled_at []) None None mid
    roomy mid now = record {
      content_is = now.content_is ∙ empty;
      now_is = now.now_is ∙ settled;
      armed_is = ap (λ (a : ArmsState). a.armed) now.arms_are ∙ unarmed;
      fired_is = ap (λ (a : ArmsState). a.fired) now.arms_are ∙ unfired;
      reads_is = ap (λ (a : ArmsState). a.fail_read) now.arms_are ∙ unread;
    }

    empty-is-journal : IsJournal [] empty_journal
    empty-is-journal = record { short = All-nil (λ (c : List ℕ). length c < 2 ^ 32); gate = 0; rest = []; closed = λ same. absurd (omega arith); is = refl }

    finished : (last : MemState) → IsAt (overlaid [] 0 empty_journal) (settled_at (overlaid [] 0 empty_journal)) None None last → Holds [] None None last
    finished last is = record {
      journal = subst (IsJournal []) (sym (is.content_is ∙ append-nil empty_journal)) empty-is-journal;
      settled = is.now_is ∙ ap settled_at (sym is.content_is);
      armed = is.armed_is;
      fired = is.fired_is;
      reads = is.reads_is;
    }

    by : Makes MemGoes old (make_room 9 1 ∷ write 0 empty_journal ∷ sync ∷ []) true new → Holds [] None None new
    by (inl (broke, failed)) = absurd (true≢false broke)
    by (inr (mid, goes, rest)) =
        let after = written_at (settled_at []) 0 (length empty_journal) in
        then-none mid (write 0 empty_journal) (sync ∷ []) true new (overlaid [] 0 empty_journal) after after (Holds [] None None new)
        (λ went next call. wrote [] (settled_at []) None mid (roomy mid goes) went next 0 empty_journal call)
        (λ next is_next made.
        then-none next sync [] true new (overlaid [] 0 empty_journal) after (settled_at (overlaid [] 0 empty_journal)) (Holds [] None None new)
        (λ went last call. synced (overlaid [] 0 empty_journal) after None next is_next went last call)
        (λ last is_last done. subst (Holds [] None None) (sym done.1) (finished last is_last))
        made)
        rest
