-- No line that is printed looks like one of the schedule.
use Rattle.std.proofs.Common.{◌≡◌, ◌∙◌, ℕ, false, eqb, List, ◌∷◌, refl, sym, ap}
use Rattle.std.proofs.lemmas.Bool.{false≢true}
use Rattle.pv_audit.specs.Entries.{entry_of, printed}
use Rattle.pv_audit.proofs.EntryLemmas.{printed-entry}
use Rattle.pv_base.specs.Catalog.{Declared}
use Rattle.pv_model.specs.Text.{TextLine}
use Rattle.pv_protocol.specs.LineText.{words_of}
use Rattle.pv_protocol.specs.Lines.{Line}

-- Another byte than `>` is first.
other-first : (b : ℕ) (rest text : List ℕ) → eqb b 62 ≡ false → b ∷ rest ≡ 62 ∷ (32 ∷ text) → ⊥
other-first b rest text differs same = let first : b ≡ 62 = cc in false≢true (sym differs ∙ ap (λ (c : ℕ). eqb c 62) first)

unprompted : (catalog : Declared) (line : Line) (text : TextLine) → words_of catalog line ≡ 62 ∷ (32 ∷ text) → ⊥
unfolding words_of
unprompted catalog (Line.txn t) text same = other-first _ _ text refl same
unprompted catalog (Line.commit t replies) text same = other-first _ _ text refl same
unprompted catalog (Line.refuse t cause) text same = other-first _ _ text refl same
unprompted catalog (Line.full site length) text same = other-first _ _ text refl same
unprompted catalog (Line.spent site) text same = other-first _ _ text refl same
unprompted catalog (Line.down site) text same = other-first _ _ text refl same
unprompted catalog (Line.up site) text same = other-first _ _ text refl same
unprompted catalog (Line.stopped site) text same = other-first _ _ text refl same
unprompted catalog (Line.fault site) text same = other-first _ _ text refl same
unprompted catalog (Line.started site epoch) text same = other-first _ _ text refl same
unprompted catalog (Line.no_message n) text same = other-first _ _ text refl same
unprompted catalog (Line.sent n from to kind t) text same = other-first _ _ text refl same
unprompted catalog (Line.order txns) text same = other-first _ _ text refl same
unprompted catalog (Line.committed txns) text same = other-first _ _ text refl same
unprompted catalog (Line.open_ones txns) text same = other-first _ _ text refl same
unprompted catalog (Line.item n cases) text same = other-first _ _ text refl same
unprompted catalog (Line.item_locked n t) text same = other-first _ _ text refl same
unprompted catalog (Line.item_down n) text same = other-first _ _ text refl same
unprompted catalog Line.end text same = other-first _ _ text refl same
unprompted catalog (Line.total sums) text same = other-first _ _ text refl same
unprompted catalog (Line.total_locked n) text same = other-first _ _ text refl same
unprompted catalog (Line.total_down site) text same = other-first _ _ text refl same
unprompted catalog (Line.total_limit names) text same = other-first _ _ text refl same

pub line-entry : (catalog : Declared) (line : Line) → entry_of (words_of catalog line) ≡ printed (words_of catalog line)
line-entry catalog line = printed-entry (words_of catalog line) (unprompted catalog line)
