-- What a commit answers: what the transaction replies in the serial run is among its possible replies.
use Rattle.std.proofs.Common.{◌≡◌, ⊎_elim, ℕ, Bool, true, false, Some, List, [], ◌∷◌, ◌++◌, map, filter, refl, sym, ap, subst, ◌∙◌}
use Rattle.std.specs.Prelude.{All, not, if◌then◌else◌}
use Rattle.std.specs.List.{Contains}
use Rattle.std.proofs.lemmas.List.{append_assoc}
use Rattle.pv_base.proofs.AssignmentLemmas.{different}
use Rattle.pv_base.proofs.Basics.{Some_inj}
use Rattle.pv_base.proofs.ContainsLemmas.{Contains-first, Contains-behind, Contains-cases, Contains-filter}
use Rattle.pv_base.proofs.MapLemmas.{Contains-unmap}
use Rattle.pv_base.specs.Assignment.{is_same_txn, commits}
use Rattle.pv_base.specs.Polyvalue.{Case, meets, value_at}
use Rattle.pv_base.specs.declared.reply.Reply.{Reply}
use Rattle.pv_base.specs.declared.txn.TxnId.{TxnId}
use Rattle.pv_format.specs.Record.{Record}
use Rattle.pv_law_acts.specs.Seen.{WorksAgeless, place_in_order}
use Rattle.pv_law_agreement.proofs.Lists.{Cut, cut-at, pairs-across}
use Rattle.pv_law_agreement.proofs.PlaceLemmas.{Apart, placed-listed, programs-append}
use Rattle.pv_law_agreement.proofs.ReadLemmas.{reads-alike}
use Rattle.pv_law_agreement.proofs.SupportSteps.{reads-fixed}
use Rattle.pv_law_agreement.proofs.ValueSteps.{among-commits, front-listed}
use Rattle.pv_law_agreement.specs.Falls.{FitsFallBack}
use Rattle.pv_law_agreement.specs.Grounds.{HasGrounds, IsRightEntry}
use Rattle.pv_law_agreement.specs.Places.{txns_of, AreDistinct}
use Rattle.pv_law_agreement.specs.Serialized.{IsSerialized}
use Rattle.pv_law_agreement.specs.Supported.{IsSupported}
use Rattle.pv_law_programs.proofs.AlikeRows.{own_rows_alone}
use Rattle.pv_law_step.proofs.ComputedLemmas.{reply-value, reply-exact}
use Rattle.pv_law_step.proofs.Lists.{all-from}
use Rattle.pv_law_values.proofs.ChoiceLemmas.{choice-heeding, among-agrees}
use Rattle.pv_law_values.proofs.SerialLemmas.{serial-alike, reply-at}
use Rattle.pv_law_values.proofs.SupportLemmas.{rows-fixed, every-read}
use Rattle.pv_law_values.specs.Cut.{among}
use Rattle.pv_law_values.specs.Heeds.{Heeds}
use Rattle.pv_model.specs.Alternatives.{rows_at}
use Rattle.pv_model.specs.Check.{names_item}
use Rattle.pv_model.specs.Meaning.{Row, exec}
use Rattle.pv_model.specs.PossibleAnswers.{without_repeats}
use Rattle.pv_model.specs.Replies.{is_same_reply}
use Rattle.pv_model.specs.Serial.{Ordered, declared_rows, serial, serial_reply}
use Rattle.pv_protocol.specs.Committed.{Fits, programs_of}
use Rattle.pv_protocol.specs.Coordinate.{reads_of, reply_after, reply_value, replies_of}
use Rattle.pv_protocol.specs.Records.{choice}
use Rattle.pv_protocol.specs.State.{Setup, voting, Entry, Placed}
use Rattle.pv_protocol.specs.World.{World}

-- The value at an assignment is among the possible ones.

case-value : {V : Type 0} (cases : List (Case V)) (a : List TxnId) (v : V) → value_at cases a ≡ Some v → Contains (map (λ (c : Case V). c.value) cases) v
case-value [] a v is = absurd (let wrong : ⊥ = cc in wrong)
case-value {V} (case ∷ cases) a v is = by (meets case.when a) (case-value cases a v) is
  where
    by : (b : Bool) → (value_at cases a ≡ Some v → Contains (map (λ (c : Case V). c.value) cases) v) → (if b then Some case.value else value_at cases a) ≡ Some v
        → Contains (case.value ∷ map (λ (c : Case V). c.value) cases) v
    by true later is = subst (Contains (case.value ∷ map (λ (c : Case V). c.value) cases)) (Some_inj is) (Contains-first case.value (map (λ (c : Case V). c.value) cases))
    by false later is = Contains-behind case.value (map (λ (c : Case V). c.value) cases) v (later is)

once : {V : Type 0} (same : V → V → Bool) → ((x y : V) → same x y ≡ true → x ≡ y) → (values : List V) (v : V) → Contains values v → Contains (without_repeats same values) v
once same exact [] v h = h
once {V} same exact (x ∷ values) v h =
    ⊎_elim
    (λ first. subst (Contains (x ∷ filter (λ y. not (same x y)) (without_repeats same values))) first (Contains-first x (filter (λ y. not (same x y)) (without_repeats same values))))
    (λ behind. by (same x v) refl (once same exact values v behind))
    (Contains-cases x values v h)
  where
    by : (b : Bool) → same x v ≡ b → Contains (without_repeats same values) v → Contains (x ∷ filter (λ y. not (same x y)) (without_repeats same values)) v
    by true is later = subst (Contains (x ∷ filter (λ y. not (same x y)) (without_repeats same values))) (exact x v is) (Contains-first x (filter (λ y. not (same x y)) (without_repeats same values)))
    by false is later = Contains-behind x (filter (λ y. not (same x y)) (without_repeats same values)) v (Contains-filter (λ y. not (same x y)) (without_repeats same values) v (ap not is) later)

-- What the program replies at an assignment is among the replies.
pub reply-possible : (records : List Record) (entry : Entry) (a : List TxnId) → Contains (replies_of records entry) (reply_after records entry a)
reply-possible records entry a =
    once is_same_reply reply-exact.exact (map (λ (c : Case Reply). c.value) (reply_value records entry)) (reply_after records entry a)
    (case-value (reply_value records entry) a (reply_after records entry a) (reply-value records entry a))

module _ (setup : Setup) (w u : World) (grounds : HasGrounds setup w) (supported : IsSupported w) (values : IsSerialized setup w) (falls : FitsFallBack w u) (distinct : AreDistinct u.order)
    (more : List Placed) (longer : u.order ≡ w.order ++ more) (n : ℕ) (txn : TxnId) (entry : Entry) (works : WorksAgeless w n txn entry) (votes : entry.stage ≡ voting)
    (a : List TxnId) (fits : Fits u a) (in_a : commits a txn ≡ true) (records : List Record) (heeds : Heeds records a) where
  abbrev right : IsRightEntry setup w n txn entry
  right = grounds.entries n txn entry works

  abbrev own : Placed
  own = place_in_order entry

  placed : commits (txns_of w.order) txn ≡ true
  placed = subst (λ t. commits (txns_of w.order) t ≡ true) right.is (placed-listed w.order own (right.placed votes))

  abbrev here : Cut w.order own
  here = cut-at w.order own (right.placed votes)

  abbrev cut_to : List TxnId
  cut_to = among (txns_of w.order) a

  abbrev declared : List Row
  declared = declared_rows setup.catalog

  -- On what was read the program replies as in the serial run.
  same-reply : (exec entry.program (rows_at (reads_of entry) (choice records a))).reply ≡ (exec entry.program (serial declared (programs_of here.front) a)).reply
  same-reply =
      let reads = reads_of entry in
      let set = commits (txns_of w.order) in
      let agree = among-agrees (txns_of w.order) a in
      ap (λ (rows : List Row). (exec entry.program rows).reply)
      (rows-fixed (λ t. true) reads (every-read reads) (choice records a) a (λ t every. choice-heeding records a heeds t))
      ∙ ap (λ (rows : List Row). (exec entry.program rows).reply)
      (rows-fixed set reads (reads-fixed set entry (λ taken listed. supported.taken n txn entry works taken listed)) a cut_to (λ t listed. sym (agree t listed)))
      ∙ (own_rows_alone (names_item entry.program) entry.program (rows_at reads cut_to) (serial declared (programs_of here.front) cut_to) (λ k h. h)
      (reads-alike setup w grounds n txn entry works votes (values.taken n txn entry works votes) here.front here.rest own here.split right.is cut_to (falls a fits)
      (among-commits (txns_of w.order) a txn placed in_a))).0
      ∙ ap (λ (rows : List Row). (exec entry.program rows).reply)
      (serial-alike declared (programs_of here.front) cut_to a (λ t listed. agree t (front-listed w.order here.front (own ∷ here.rest) here.split t listed)))

  -- The transaction replies in the serial run what is computed of what it read.
  pub serial-answer : serial_reply declared (programs_of u.order) a txn ≡ Some (reply_after records entry a)
  serial-answer =
      let entry_there : Ordered = record { txn = entry.txn; program = entry.program } in
      let order : u.order ≡ here.front ++ own ∷ (here.rest ++ more) = longer ∙ ap (λ o. o ++ more) here.split ∙ append_assoc here.front (own ∷ here.rest) more in
      let others : All (λ (e : Ordered). is_same_txn e.txn entry_there.txn ≡ false) (programs_of here.front) =
      all-from (λ (e : Ordered). is_same_txn e.txn entry_there.txn ≡ false) (programs_of here.front) (λ e h.
      let back = Contains-unmap (λ (p : Placed). let o : Ordered = record { txn = p.txn; program = p.program } in o) here.front e h in
      subst (λ (e : Ordered). is_same_txn e.txn entry.txn ≡ false) back.1.1
      (different {t = back.0.txn} {u = entry.txn}
      (pairs-across Apart here.front (own ∷ (here.rest ++ more)) (subst AreDistinct order distinct) back.0 own back.1.0 (Contains-first own (here.rest ++ more))))) in
      ap (λ o. serial_reply declared (programs_of o) a txn) order
      ∙ ap (λ o. serial_reply declared o a txn) (programs-append here.front (own ∷ (here.rest ++ more)))
      ∙ ap (serial_reply declared (programs_of here.front ++ entry_there ∷ programs_of (here.rest ++ more)) a) (sym right.is)
      ∙ reply-at declared (programs_of here.front) entry_there (programs_of (here.rest ++ more)) a others (ap (commits a) right.is ∙ in_a)
      ∙ ap (λ (r : Reply). Some r) (sym same-reply)
