-- Where the serial run of a report passes a limit, and where it doesn't.
use Rattle.std.proofs.Common.{◌≡◌, ⊎_elim, ℕ, ℤ, ◌<◌, ◌≤◌, Bool, true, false, ◌||◌, Some, List, [], ◌∷◌, ◌++◌, length, get_or, refl, sym, ap, subst, ◌∙◌, arith, append-nil}
use Rattle.std.specs.Prelude.{IsTrue, if◌then◌else◌}
use Rattle.std.specs.List.{Contains, list_any, slice_get}
use Rattle.std.proofs.lemmas.Bool.{or_left, or_right}
use Rattle.std.proofs.lemmas.List.Elements.{All-contains}
use Rattle.std.proofs.lemmas.List.Folds.{list_any-append}
use Rattle.std.proofs.lemmas.Option.{slice_get_cases, get_or_from_slice_get}
use Rattle.pv_audit.specs.Limits.{IsValueAfter, AreValuesAfter, none, more, ReadsTooMany, HoldsTooMany}
use Rattle.pv_audit.specs.Reports.{Report}
use Rattle.pv_audit.specs.Values.{AreAllValuesAfter, AreReads, AreWritten, ReadsTooMuch}
use Rattle.pv_audit.proofs.PutLemmas.{items_of}
use Rattle.pv_audit.proofs.StepLemmas.{read-value, write-read}
use Rattle.pv_base.proofs.AssignmentLemmas.{same-refl, same-eq}
use Rattle.pv_base.proofs.ContainsLemmas.{Contains-first, Contains-behind, Contains-nil, Contains-cases}
use Rattle.pv_base.specs.Assignment.{is_same_txn, commits, AgreeOn}
use Rattle.pv_base.specs.Catalog.{Declared}
use Rattle.pv_base.specs.Polyvalue.{Case, value_at, names, AreNames, DependsOnlyOn}
use Rattle.pv_base.specs.declared.limits.TheConstants.{HELD_NAMES, READ_NAMES}
use Rattle.pv_base.specs.declared.literal.Literal.{Literal}
use Rattle.pv_base.specs.declared.txn.TxnId.{TxnId}
use Rattle.pv_cases.specs.NameLimits.{ChoiceNamesTooMany}
use Rattle.pv_law_polyvalues.proofs.AscendingLemmas.{fewer-ascending}
use Rattle.pv_law_polyvalues.proofs.NameLemmas.{some-names, listed-named}
use Rattle.pv_law_polyvalues.proofs.PolyvalueLemmas.{one-canonical, depends-named, value_at-agree}
use Rattle.pv_law_programs.proofs.ItemLemmas.{one_items}
use Rattle.pv_model.specs.Alternatives.{Read, all_cases}
use Rattle.pv_model.specs.Serial.{Ordered}

-- ---- what reads name

-- All reads name what one of them names.
pub member-named : (reads : List Read) (read : Read) → Contains reads read → (t : TxnId) → IsTrue (names read.cases t) → IsTrue (names (all_cases reads) t)
member-named [] read there t named = absurd (Contains-nil read there)
member-named (first ∷ reads) read there t named =
    names-both
    ∙ ⊎_elim
    (λ same. or_left (names first.cases t) (names (all_cases reads) t) (subst (λ (r : Read). IsTrue (names r.cases t)) (sym same) named))
    (λ behind. or_right (names first.cases t) (names (all_cases reads) t) (member-named reads read behind t named))
    (Contains-cases first reads read there)
  where
    names-both : names (all_cases (first ∷ reads)) t ≡ (names first.cases t || names (all_cases reads) t)
    names-both = list_any-append (λ (case : Case ℤ). list_any (λ (literal : Literal). is_same_txn t literal.txn) case.when) first.cases (all_cases reads)

-- ---- one list of values

module _ (catalog : Declared) (told : Report) (done : List Ordered) where
  -- Canonical cases of one value are one.
  pub one-value : (n : ℕ) (cases others : List (Case ℤ)) → IsValueAfter catalog told done n cases → IsValueAfter catalog told done n others → cases ≡ others
  one-value n cases others is also = one-canonical cases others is.canonical also.canonical (λ a. is.same a ∙ sym (also.same a))

  -- The first of the values, and those behind it.
  pub record IsFirstValue (n : ℕ) (items : List ℕ) (reads : List Read) : Type 0 where
    pub cases : List (Case ℤ)
    pub behind : List Read
    pub split : reads ≡ record { item = n; cases = cases } ∷ behind
    pub first : IsValueAfter catalog told done n cases
    pub after : AreValuesAfter catalog told done items behind

  pub first-value : {all : List ℕ} {reads : List Read} → AreValuesAfter catalog told done all reads → (n : ℕ) (items : List ℕ) → all ≡ n ∷ items → IsFirstValue n items reads
  first-value none n items is = absurd (let wrong : ⊥ = cc in wrong)
  first-value (more m cases rest reads here after) n items is =
      let first : m ≡ n = cc in
      let behind : rest ≡ items = cc in
      subst (λ (k : ℕ). IsFirstValue k items (record { item = m; cases = cases } ∷ reads)) first
      (record {
        cases = cases;
        behind = reads;
        split = refl;
        first = here;
        after = subst (λ (its : List ℕ). AreValuesAfter catalog told done its reads) behind after;
      })

  pub no-values : {all : List ℕ} {reads : List Read} → AreValuesAfter catalog told done all reads → all ≡ [] → reads ≡ []
  no-values none is = refl
  no-values (more m cases rest reads here after) is = absurd (let wrong : ⊥ = cc in wrong)

  pub one-reads : (items : List ℕ) (reads others : List Read) → AreValuesAfter catalog told done items reads → AreValuesAfter catalog told done items others → reads ≡ others
  one-reads [] reads others are also = no-values are refl ∙ sym (no-values also refl)
  one-reads (n ∷ items) reads others are also =
      let one = first-value are n items refl in
      let other = first-value also n items refl in
      let cases : one.cases ≡ other.cases = one-value n one.cases other.cases one.first other.first in
      let behind : one.behind ≡ other.behind = one-reads items one.behind other.behind one.after other.after in
      one.split ∙ (λ i. record { item = n; cases = cases i } ∷ behind i) ∙ sym other.split

  module _ (values : List (List (Case ℤ))) (after : AreAllValuesAfter catalog told done values) where
    pub reads-after : (reads : List Read) → ((read : Read) → Contains reads read → slice_get values read.item ≡ Some read.cases)
        → AreValuesAfter catalog told done (items_of reads) reads
    reads-after [] at = none
    reads-after (read ∷ reads) at =
        more read.item read.cases (items_of reads) reads (after.each read.item read.cases (at read (Contains-first read reads)))
        (reads-after reads (λ r h. at r (Contains-behind read reads r h)))

    each-after : (entry : Ordered) (reads : List Read) → AreReads entry.program values reads → AreValuesAfter catalog told done (items_of reads) reads
    each-after entry reads are =
        reads-after reads (λ read there. All-contains (λ (r : Read). slice_get values r.item ≡ Some r.cases) reads read are.each there)

    -- What is read of the values and names too much is what the transaction reads.
    pub reads-too-many : (entry : Ordered) (count : ℕ) → ReadsTooMuch entry.program values count → ReadsTooMany catalog told done entry count
    reads-too-many entry count much = record {
      items = items_of much.reads;
      are = much.are.items;
      name = record {
        reads = much.reads;
        are = each-after entry much.reads much.are;
        txns = much.over.txns;
        named = much.over.named;
        counted = much.over.counted;
      };
      over = much.over.over;
    }

    -- Where something is written, few were read.
    pub reads-few : (entry : Ordered) (writes : List Read) → AreWritten entry.program values writes → (count : ℕ) → ReadsTooMany catalog told done entry count → ⊥
    reads-few entry writes is count many =
        let items : items_of is.reads ≡ many.items = one_items entry.program (items_of is.reads) many.items is.are.items many.are in
        let own : AreValuesAfter catalog told done many.items is.reads =
        subst (λ (its : List ℕ). AreValuesAfter catalog told done its is.reads) items (each-after entry is.reads is.are) in
        let same : is.reads ≡ many.name.reads = one-reads many.items is.reads many.name.reads own many.name.are in
        let few : length many.name.txns ≤ READ_NAMES =
        is.split.few many.name.txns (subst (λ (reads : List Read). AreNames (all_cases reads) many.name.txns) (sym same) many.name.named) in
        omega (arith, few, many.over, many.name.counted)

    -- ---- the choice of an open transaction

    -- the transaction, and what is read names
    abbrev named_by : (entry : Ordered) (reads : List Read) → TxnId → Bool
    named_by entry reads t = is_same_txn entry.txn t || names (all_cases reads) t

    -- A choice names no more than one outcome more than what is read.
    pub choice-few : (entry : Ordered) (writes : List Read) (is : AreWritten entry.program values writes) (write : Read) → Contains writes write → (count : ℕ)
        → ChoiceNamesTooMany HELD_NAMES entry.txn (get_or values write.item []) write.cases count → ⊥
    choice-few entry writes is write there count over =
        let all = some-names (all_cases is.reads) in
        let read-few : length all.0 ≤ READ_NAMES = is.split.few all.0 all.1 in
        let within : length over.names.txns ≤ length (entry.txn ∷ all.0) =
        fewer-ascending over.names.txns (entry.txn ∷ all.0) over.names.named.ascending
        (λ t listed. in-list all.0 all.1 t (depends-named over.names.cases (named_by entry is.reads) over.names.canonical depends t
        (listed-named over.names.cases over.names.txns over.names.named t listed))) in
        let counted : length over.names.txns ≡ count = over.names.counted in
        let many : HELD_NAMES < count = over.over in
        omega (arith, read-few, within, counted, many)
      where
        old : List (Case ℤ)
        old = get_or values write.item []

        old-named : (t : TxnId) → IsTrue (names old t) → IsTrue (names (all_cases is.reads) t)
        old-named t named =
            let found = write-read catalog told done values after entry writes is write there in
            let at : slice_get values write.item ≡ Some found.0.cases =
            subst (λ (m : ℕ). slice_get values m ≡ Some found.0.cases) found.2 (read-value catalog told done values after entry writes is found.0 found.1) in
            let same : old ≡ found.0.cases = get_or_from_slice_get values write.item found.0.cases [] at in
            member-named is.reads found.0 found.1 t (subst (λ (cs : List (Case ℤ)). IsTrue (names cs t)) same named)

        new-named : (t : TxnId) → IsTrue (names write.cases t) → IsTrue (names (all_cases is.reads) t)
        new-named t named = All-contains (λ (w : Read). (u : TxnId) → IsTrue (names w.cases u) → IsTrue (names (all_cases is.reads) u)) writes write is.split.named_by_writes there t named

        side : (b : Bool) (x y : List TxnId) → AgreeOn (named_by entry is.reads) x y → value_at (if b then write.cases else old) x ≡ value_at (if b then write.cases else old) y
        side true x y agree =
            value_at-agree write.cases x y (λ t named. agree t (or_right (is_same_txn entry.txn t) (names (all_cases is.reads) t) (new-named t named)))
        side false x y agree =
            value_at-agree old x y (λ t named. agree t (or_right (is_same_txn entry.txn t) (names (all_cases is.reads) t) (old-named t named)))

        depends : DependsOnlyOn (named_by entry is.reads) over.names.cases
        depends x y agree =
            let own : IsTrue (named_by entry is.reads entry.txn) = or_left (is_same_txn entry.txn entry.txn) (names (all_cases is.reads) entry.txn) (same-refl entry.txn) in
            over.names.choice x
            ∙ ap (λ (b : Bool). value_at (if b then write.cases else old) x) (agree entry.txn own)
            ∙ side (commits y entry.txn) x y agree
            ∙ sym (over.names.choice y)

        in-list : (txns : List TxnId) → AreNames (all_cases is.reads) txns → (t : TxnId) → IsTrue (named_by entry is.reads t) → Contains (entry.txn ∷ txns) t
        in-list txns are t of = by (is_same_txn entry.txn t) refl of
          where
            by : (b : Bool) → is_same_txn entry.txn t ≡ b → IsTrue (b || names (all_cases is.reads) t) → Contains (entry.txn ∷ txns) t
            by true same _ = subst (λ (u : TxnId). Contains (entry.txn ∷ txns) u) (same-eq {t = entry.txn} {u = t} same) (Contains-first entry.txn txns)
            by false other named = Contains-behind entry.txn txns t (are.whole t named)

-- ---- what is left

-- Values that are held name few outcomes.
pub holds-few : (catalog : Declared) (told : Report) (done : List Ordered) (entry : Ordered) (values : List (List (Case ℤ)))
    → AreAllValuesAfter catalog told (done ++ entry ∷ []) values → (count : ℕ) → HoldsTooMany catalog told done entry count → ⊥
holds-few catalog told done entry values after count many =
    ⊎_elim
    (λ found. at found.0 found.2)
    (λ past. let short = past.0 in let declared = many.declared in omega (arith, short, declared, after.count))
    (slice_get_cases values many.item).1
  where
    at : (cases : List (Case ℤ)) → slice_get values many.item ≡ Some cases → ⊥
    at cases is =
        let one = first-value catalog told (done ++ entry ∷ []) many.name.are many.item [] refl in
        let alone : one.behind ≡ [] = no-values catalog told (done ++ entry ∷ []) one.after refl in
        let same : one.cases ≡ cases = one-value catalog told (done ++ entry ∷ []) many.item one.cases cases one.first (after.each many.item cases is) in
        let all : all_cases many.name.reads ≡ cases =
        ap all_cases (one.split ∙ ap (λ (l : List Read). record { item = many.item; cases = one.cases } ∷ l) alone) ∙ append-nil one.cases ∙ same in
        let few : length many.name.txns ≤ HELD_NAMES =
        after.few many.item cases is many.name.txns (subst (λ (cs : List (Case ℤ)). AreNames cs many.name.txns) all many.name.named) in
        omega (arith, few, many.over, many.name.counted)
