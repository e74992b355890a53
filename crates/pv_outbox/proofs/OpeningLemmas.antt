-- Contents, with one more that is read.
use Rattle.std.proofs.Common.{◌≡◌, ℕ, ◌+◌, ◌-◌, ◌<◌, ◌^◌, false, Some, Result, Ok, Err, List, min, arith, [], ◌∷◌, ◌++◌, length, take, get_or, sym, ap, subst, ◌∙◌}
use Rattle.std.specs.Global.{Vec}
use Rattle.std.proofs.lemmas.List.{get_or-map, length-map, take_more}
use Rattle.std.proofs.lemmas.Option.{slice_get-get_or}
use Rattle.pv_disk_model.specs.Log.{Keeps, StaysUp}
use Rattle.pv_disk_model.specs.LogModel.{LogModel}
use Rattle.pv_disk_model.specs.Size.{Contents, size_of}
use Rattle.pv_law_outbox.specs.State.{Record}
use Rattle.pv_outbox.specs.MemoryView.{Facts}
use Rattle.pv_outbox.specs.Opens.{HasOpened, Loads, Reads, WereRead}
use Rattle.pv_outbox.specs.OutboxState.{OutboxState}
use Rattle.pv_outbox.specs.declared.opening.Refusal.{Refusal}
use Rattle.pv_outbox.specs.declared.opening.Refusal.TheVariants as refusal
use Rattle.pv_outbox.specs.Spelling.{IsNoRecord, IsFirstBadContent, SpellsRecord, SpellRecords}
use Rattle.pv_outbox.specs.Values.{contents_of}
use Rattle.pv_outbox.proofs.StandsLemmas.{spelled-more}

module _ (contents : List (Vec ℕ)) (i : ℕ) (content : Vec ℕ) (inside : i < length contents) (is : content ≡ get_or contents i content) where
  inside-bytes : i < length (contents_of contents)
  inside-bytes = subst (λ n. i < n) (sym (length-map contents (λ (v : Vec ℕ). v.items))) inside

  is-bytes : get_or (contents_of contents) i content.items ≡ content.items
  is-bytes = get_or-map (λ (v : Vec ℕ). v.items) contents i content content.items inside ∙ sym (ap (λ (v : Vec ℕ). v.items) is)

  -- One more record was read.
  pub read-more : (entries : List Record) (entry : Record) → SpellRecords entries (take i (contents_of contents)) → SpellsRecord entry content.items
      → SpellRecords (entries ++ entry ∷ []) (take (i + 1) (contents_of contents))
  read-more entries entry before one =
      subst (SpellRecords (entries ++ entry ∷ []))
      (sym (take_more (contents_of contents) i content.items inside-bytes ∙ ap (λ x. take i (contents_of contents) ++ x ∷ []) is-bytes))
      (spelled-more entries (take i (contents_of contents)) entry content.items before one)

  -- The first content that is no record's.
  pub first-bad : (entries : List Record) → SpellRecords entries (take i (contents_of contents)) → IsNoRecord content.items → IsFirstBadContent (contents_of contents) i
  first-bad entries before none = record {
    content = content.items;
    there = slice_get-get_or (contents_of contents) i content.items inside-bytes ∙ ap Some is-bytes;
    none = none;
    entries = entries;
    before = before;
  }

module _ {W : Type 0} (M : LogModel W) (old new : W) (up : StaysUp M old new) (kept : Keeps M old new) where
  -- What was read has the log's length, which isn't above the greatest.
  pub were-read : (contents : Contents) (count length_now : ℕ) → M.is_intact old → ((held : Contents) → M.contents old ≡ Some held → contents ≡ held)
      → count ≡ min (size_of contents) (2 ^ 64 - 1) → length_now ≡ M.size new → count ≡ length_now → WereRead M old contents
  were-read contents count length_now intact held counted told same = record {
    size = omega (arith, counted, told, same, kept.size, M.is_bounded old intact);
    held = held;
  }

  pub loads-read : (contents : Contents) (result : Result Facts Refusal) → WereRead M old contents → Reads contents result → Loads M old new result
  loads-read contents (Ok facts) were reads = (up, kept, (contents, were, reads))
  loads-read contents (Err refusal.Failed) were reads = absurd reads
  loads-read contents (Err (refusal.BadRecord index)) were reads = (up, kept, (contents, were, reads))
  loads-read contents (Err (refusal.NotOurs place)) were reads = absurd reads
  loads-read contents (Err refusal.NoMemory) were reads = (up, kept)

-- The outbox stands for the records that were read.
pub has-opened : {W : Type 0} (M : LogModel W) (old : W) (outbox : OutboxState W) (facts : Facts) → outbox.state ≡ facts.state → outbox.is_down ≡ false
    → Loads M old outbox.log (Ok facts) → HasOpened M old outbox
has-opened M old outbox facts state up loaded = record {
  contents = loaded.2.0;
  entries = loaded.2.2.0;
  read = loaded.2.1;
  stands = record {
    up = up;
    state = state ∙ loaded.2.2.2;
    spelled = loaded.2.2.1;
    size = loaded.1.size ∙ loaded.2.1.size;
    held = λ held is. sym (loaded.2.1.held held (sym loaded.1.contents ∙ is));
  };
  up = loaded.0;
  log = loaded.1;
}
