-- What is known of all transactions, with one record more; and contents, with one more.
use Rattle.std.proofs.Common.{◌≡◌, ℕ, ◌+◌, ◌<◌, Bool, true, false, Some, None, List, [], ◌∷◌, ◌++◌, length, take, get_or, refl, sym, ap, subst, ◌∙◌}
use Rattle.std.specs.Prelude.{if◌then◌else◌}
use Rattle.std.specs.Global.{Vec}
use Rattle.std.proofs.lemmas.List.{get_or-map, length-map, map-append, take_more}
use Rattle.std.proofs.lemmas.List.Elements.{All-append, All-cons, All-nil}
use Rattle.std.proofs.lemmas.Option.{slice_get-get_or}
use Rattle.pv_base.specs.Assignment.{is_same_txn}
use Rattle.pv_base.proofs.AssignmentLemmas.{same-eq}
use Rattle.pv_base.specs.declared.txn.TxnId.{TxnId}
use Rattle.pv_law_quorum.specs.Record.{Record}
use Rattle.pv_quorum.specs.Knows.{IsRecorded}
use Rattle.pv_quorum.specs.MemoryView.{known_at}
use Rattle.pv_quorum.specs.Opens.{Remembers, contents_of}
use Rattle.pv_quorum.specs.Spelling.{IsInRange, IsNoRecord, IsFirstBadContent, Spells, SpellRecords, record_bytes, txn_in}
use Rattle.pv_quorum.specs.declared.known.Known.{Known}
use Rattle.pv_quorum.proofs.KnownLemmas.{recorded-apart}

-- One record more was noted at its transaction.
pub remembers-more : (entries : List Record) (entry : Record) (old new : List (TxnId × Known)) (known : Known)
    → ((other : TxnId) → known_at new other ≡ (if is_same_txn other (txn_in entry) then known else known_at old other))
    → (IsRecorded (txn_in entry) entries (known_at old (txn_in entry)) → IsRecorded (txn_in entry) (entries ++ entry ∷ []) known)
    → known.proposal ≡ (known_at old (txn_in entry)).proposal → Remembers entries old → Remembers (entries ++ entry ∷ []) new
remembers-more entries entry old new known updates recorded same was = record {
  recorded = λ txn. subst (IsRecorded txn (entries ++ entry ∷ [])) (sym (updates txn)) (recorded-by txn (is_same_txn txn (txn_in entry)) refl);
  idle = λ txn. ap (λ (k : Known). k.proposal) (updates txn) ∙ idle-by txn (is_same_txn txn (txn_in entry));
} where
  recorded-by : (txn : TxnId) (b : Bool) → is_same_txn txn (txn_in entry) ≡ b → IsRecorded txn (entries ++ entry ∷ []) (if b then known else known_at old txn)
  recorded-by txn true is =
      subst (λ (t : TxnId). IsRecorded t (entries ++ entry ∷ []) known) (sym (same-eq {t = txn} {u = txn_in entry} is)) (recorded (was.recorded (txn_in entry)))
  recorded-by txn false apart = recorded-apart txn entries (known_at old txn) (was.recorded txn) entry apart

  idle-by : (txn : TxnId) (b : Bool) → (if b then known else known_at old txn).proposal ≡ None
  idle-by txn true = same ∙ was.idle (txn_in entry)
  idle-by txn false = was.idle txn

-- One content more, and its record.
pub spell-more : (entries : List Record) (contents : List (List ℕ)) (entry : Record) (content : List ℕ) → SpellRecords entries contents → Spells entry content
    → SpellRecords (entries ++ entry ∷ []) (contents ++ content ∷ [])
spell-more entries contents entry content spelled one = record {
  range = All-append IsInRange entries (entry ∷ []) spelled.range (All-cons IsInRange entry [] one.range (All-nil IsInRange));
  bytes_are = (λ i. spelled.bytes_are i ++ one.bytes_are i ∷ []) ∙ sym (map-append record_bytes entries (entry ∷ []));
}

module _ (contents : List (Vec ℕ)) (i : ℕ) (content : Vec ℕ) (inside : i < length contents) (is : content ≡ get_or contents i content) where
  inside-bytes : i < length (contents_of contents)
  inside-bytes = subst (λ n. i < n) (sym (length-map contents (λ (v : Vec ℕ). v.items))) inside

  is-bytes : get_or (contents_of contents) i content.items ≡ content.items
  is-bytes = get_or-map (λ (v : Vec ℕ). v.items) contents i content content.items inside ∙ sym (ap (λ (v : Vec ℕ). v.items) is)

  -- One more record was read.
  pub read-more : (entries : List Record) (entry : Record) → SpellRecords entries (take i (contents_of contents)) → Spells entry content.items
      → SpellRecords (entries ++ entry ∷ []) (take (i + 1) (contents_of contents))
  read-more entries entry before one =
      subst (SpellRecords (entries ++ entry ∷ []))
      (sym (take_more (contents_of contents) i content.items inside-bytes ∙ ap (λ x. take i (contents_of contents) ++ x ∷ []) is-bytes))
      (spell-more entries (take i (contents_of contents)) entry content.items before one)

  -- The first content that is no record's.
  pub first-bad : (entries : List Record) → SpellRecords entries (take i (contents_of contents)) → IsNoRecord content.items → IsFirstBadContent (contents_of contents) i
  first-bad entries before none = record {
    content = content.items;
    there = slice_get-get_or (contents_of contents) i content.items inside-bytes ∙ ap Some is-bytes;
    none = none;
    entries = entries;
    before = before;
  }
