-- Contents and their records, one after another.
use Rattle.std.proofs.Common.{◌≡◌, ◌≢◌, inl, inr, refl, ℕ, ◌+◌, ◌<◌, max, List, [], ◌∷◌, ◌++◌, length, take, get_or, Option, Some, None, IsSome, MatchOption, sym, ap, subst, ◌∙◌, arith}
use Rattle.std.specs.Global.{Vec}
use Rattle.std.proofs.lemmas.List.{append-nil, map-append, take_more, get_or-map, length-map}
use Rattle.std.proofs.lemmas.Option.{slice_get-get_or}
use Rattle.pv_base.specs.BigEndian.{IsNumber}
use Rattle.pv_base.proofs.BigEndianLemmas.{big_endian-one}
use Rattle.pv_bytes.specs.Reading.{Rest}
use Rattle.pv_format.specs.Contents.{IsNoRecord, IsFirstBadContent, SpellRecords, greatest_epoch}
use Rattle.pv_format.specs.FirstFault.{Fault, bad_field, extra, HasFault, RecordFault, is_extra, is_in_record, is_only_sure}
use Rattle.pv_format.specs.Layout.{nothing_more, record_layout}
use Rattle.pv_format.specs.Record as model
use Rattle.pv_format.specs.Record.{epoch_begun, prepared, outcome_known}
use Rattle.pv_format.specs.RecordSpelling.{IsReadAs}
use Rattle.pv_fields.specs.Decoding.{Passes}
use Rattle.pv_law_format.proofs.AnswerLemmas.{record-not-both}
use Rattle.pv_law_format.proofs.ReplayLemmas.{spelled-both}
use Rattle.pv_replay.specs.Content.{IsOnlySure, IsStopped}
use Rattle.pv_replay.specs.Faults.{fault_of}
use Rattle.pv_replay.specs.Values.{contents_of, record_of, records_of}
use Rattle.pv_replay.specs.declared.error.PolyError.{PolyError}
use Rattle.pv_replay.specs.declared.record.Record.{Record}

-- Bytes with a fault are read as no record.
no_record : (content : List ℕ) (fault : Fault) → RecordFault content fault → IsNoRecord content
no_record content fault has = λ value spelled. record-not-both content value fault spelled has

-- The bytes of a promise under the kind of others.
only_four : (front back bytes : List ℕ) → bytes ≡ front ++ back → IsNumber 1 4 front → bytes ≡ 4 ∷ back
only_four front back bytes whole is = whole ∙ ap (λ (b : List ℕ). b ++ back) (is.spelled ∙ big_endian-one 4 is.fits)

module _ (content : List ℕ) (start : Rest) (begins : start ≡ record { place = 0; left = content }) where
  at_start : (fault : Fault) → HasFault (record_layout nothing_more) start.place start.left fault → IsNoRecord content
  at_start fault has = no_record content fault (is_in_record fault (subst (λ (rest : Rest). HasFault (record_layout nothing_more) rest.place rest.left fault) begins has))

  -- A record that promises sure values alone under the kind of others.
  unsure_read : (new : Rest) (left : List ℕ) → new.left ≡ left → IsOnlySure start new → IsNoRecord content
  unsure_read new [] none only =
      let taken = only.passes.taken in
      let whole : content ≡ taken.front =
      sym (ap (λ (rest : Rest). rest.left) begins) ∙ taken.taken.bytes ∙ ap (λ rest. taken.front ++ rest) none ∙ append-nil taken.front in
      no_record content (bad_field 0)
      (is_only_sure only.txn only.writes taken.is.back (whole ∙ only_four taken.is.front taken.is.back taken.front taken.is.whole taken.is.first) only.sure taken.is.second)
  unsure_read new (byte ∷ left) more only =
      at_start (extra new.place)
      (only.passes.later nothing_more (extra new.place) (is_extra (λ none. let lengths = ap (λ (l : List ℕ). length l) (sym more ∙ none) in omega (arith, lengths))))

  no_record_told : (new : Rest) (told : Option Fault) → IsSome told → IsStopped start new told → IsNoRecord content
  no_record_told new (Some fault) some (inl stops) = at_start fault (stops nothing_more)
  no_record_told new (Some fault) some (inr only) = unsure_read new new.left refl only
  no_record_told new None some stops = cc

  -- Bytes that aren't read are no record.
  pub no_record_read : (new : Rest) (e : PolyError) → IsSome (fault_of e) → IsStopped start new (fault_of e) → IsNoRecord content
  no_record_read new e some stops = no_record_told new (fault_of e) some stops

  -- A record was read. It is what the bytes are read as, if nothing is left; else they are no record.
  pub record_read : (read : Record) (new : Rest) (left : List ℕ) → left ≡ new.left → Passes (IsReadAs (record_of read)) record_layout start new
      → (found : Option Record) → MatchOption found (left ≢ []) (λ value. (value ≡ read) × (left ≡ []))
      → MatchOption found (IsNoRecord content) (λ value. IsReadAs (record_of value) content)
  record_read read new left is passes (Some value) found =
      let whole : content ≡ passes.taken.front =
      sym (ap (λ (rest : Rest). rest.left) begins) ∙ passes.taken.taken.bytes
      ∙ ap (λ rest. passes.taken.front ++ rest) (sym is ∙ found.1) ∙ append-nil passes.taken.front in
      subst (λ (v : Record). IsReadAs (record_of v) content) (sym found.0) (subst (IsReadAs (record_of read)) (sym whole) passes.taken.is)
  record_read read new left is passes None found =
      at_start (extra new.place) (passes.later nothing_more (extra new.place) (is_extra (subst (λ rest. rest ≢ []) is found)))

max_assoc : (a b c : ℕ) → max a (max b c) ≡ max (max a b) c
max_assoc a b c = omega arith

-- The greatest epoch is that of the records before, or that of the last one.
pub greatest_epoch-more : (records : List model.Record) (value : model.Record) → greatest_epoch (records ++ value ∷ []) ≡ max (greatest_epoch records) (greatest_epoch (value ∷ []))
greatest_epoch-more [] value = omega arith
greatest_epoch-more (epoch_begun epoch ∷ records) value = ap (max epoch) (greatest_epoch-more records value) ∙ max_assoc epoch (greatest_epoch records) (greatest_epoch (value ∷ []))
greatest_epoch-more (prepared txn writes ∷ records) value = greatest_epoch-more records value
greatest_epoch-more (outcome_known txn commits ∷ records) value = greatest_epoch-more records value

module _ (contents : List (Vec ℕ)) (i : ℕ) (content : Vec ℕ) (inside : i < length contents) (is : content ≡ get_or contents i content) where
  bytes : Vec ℕ → List ℕ
  bytes v = v.items

  inside_bytes : i < length (contents_of contents)
  inside_bytes = subst (λ n. i < n) (sym (length-map contents (λ (v : Vec ℕ). v.items))) inside

  is_bytes : get_or (contents_of contents) i content.items ≡ content.items
  is_bytes = get_or-map (λ (v : Vec ℕ). v.items) contents i content content.items inside ∙ sym (ap (λ (v : Vec ℕ). v.items) is)

  -- The content at the place is the next one.
  pub contents_more : take (i + 1) (contents_of contents) ≡ take i (contents_of contents) ++ content.items ∷ []
  contents_more = take_more (contents_of contents) i content.items inside_bytes ∙ ap (λ x. take i (contents_of contents) ++ x ∷ []) is_bytes

  -- The first content that is no record.
  pub first_bad : (records : List Record) → SpellRecords (records_of records) (take i (contents_of contents)) → IsNoRecord content.items → IsFirstBadContent (contents_of contents) i
  first_bad records before none = record {
    content = content.items;
    there = slice_get-get_or (contents_of contents) i content.items inside_bytes ∙ ap Some is_bytes;
    none = none;
    records = records_of records;
    before = before;
  }

  -- One more record was read.
  pub records_more : (records : List Record) (read : Record) → SpellRecords (records_of records) (take i (contents_of contents)) → IsReadAs (record_of read) content.items
      → SpellRecords (records_of (records ++ read ∷ [])) (take (i + 1) (contents_of contents))
  records_more records read before one =
      subst (λ rs. SpellRecords rs (take (i + 1) (contents_of contents))) (sym (map-append record_of records (read ∷ [])))
      (subst (SpellRecords (records_of records ++ record_of read ∷ [])) (sym contents_more)
      (spelled-both (records_of records) (take i (contents_of contents)) (record_of read ∷ []) (content.items ∷ []) before (one, tt)))
