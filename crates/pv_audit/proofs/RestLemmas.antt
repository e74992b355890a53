-- A line is what its first word and the words behind it say.
use Rattle.std.proofs.Common.{◌≡◌, ℕ, ◌+◌, ◌≤◌, Bor, length, arith, List, [], ◌∷◌, Option, Some, None, Result, Ok, Err, IfOk, cond, MatchOption, refl, sym, ap, ap₂, subst, ◌∙◌}
use Rattle.std.specs.Prelude.{codes}
use Rattle.std.specs.List.{slice_split}
use Rattle.std.specs.Option.{option_map}
use Rattle.std.specs.Str.{bytes_eq}
use Rattle.std.proofs.lemmas.List.Splits.{join_with_byte-slice_split, length-slice_split}
use Rattle.std.proofs.lemmas.List.Sums.{count_by-le-length}
use Rattle.pv_audit.specs.FirstWords.{Fields, ItemValue, TotalValue, first_of, first_word, item_line, line_with, total_line}
use Rattle.pv_audit.specs.Printed.{AreNamed, IsPrinted, IsPrintedForm, IsWithin}
use Rattle.pv_audit.specs.Words.{HasRest, HasWords, IsLineOf, IsRestOf, line_words, rest_words}
use Rattle.pv_audit.specs.declared.first.First.{First}
use Rattle.pv_audit.specs.declared.first.First.TheVariants.{Txn, Commit, Refuse, Full, Spent, Down, Up, Stopped, Fault, Started, No, Sent, Order, Committed, Open, Item, End, Total}
use Rattle.pv_audit.proofs.FixedLemmas.{same-length}
use Rattle.pv_audit.proofs.FreeLemmas.{free-line}
use Rattle.pv_audit.proofs.LineWordLemmas.{joined-line}
use Rattle.pv_audit.proofs.SpaceLemmas.{is_space, joined, split-joined}
use Rattle.pv_base.specs.Catalog.{Declared}
use Rattle.pv_protocol.specs.Lines.{Line}
use Rattle.pv_report.specs.NamesOnlyItems.{NamesOnlyItems}
use Rattle.pv_script.specs.LineFaults.{texts}
use Rattle.pv_script.specs.LineView.{line_of}
use Rattle.pv_script.specs.declared.line.Line as code

-- ---- first words

-- the word that is spelled so, if one is
named : List ℕ → First
named word =
    cond (bytes_eq word (codes "txn")) Txn (cond (bytes_eq word (codes "commit")) Commit (cond (bytes_eq word (codes "refuse")) Refuse
    (cond (bytes_eq word (codes "full")) Full (cond (bytes_eq word (codes "spent")) Spent (cond (bytes_eq word (codes "down")) Down
    (cond (bytes_eq word (codes "up")) Up (cond (bytes_eq word (codes "stopped")) Stopped (cond (bytes_eq word (codes "fault")) Fault
    (cond (bytes_eq word (codes "started")) Started (cond (bytes_eq word (codes "no")) No (cond (bytes_eq word (codes "sent")) Sent
    (cond (bytes_eq word (codes "order")) Order (cond (bytes_eq word (codes "committed")) Committed (cond (bytes_eq word (codes "open")) Open
    (cond (bytes_eq word (codes "item")) Item (cond (bytes_eq word (codes "end")) End Total))))))))))))))))

named-first : (first : First) → named (first_word first) ≡ first
unfolding named
named-first Txn = refl
named-first Commit = refl
named-first Refuse = refl
named-first Full = refl
named-first Spent = refl
named-first Down = refl
named-first Up = refl
named-first Stopped = refl
named-first Fault = refl
named-first Started = refl
named-first No = refl
named-first Sent = refl
named-first Order = refl
named-first Committed = refl
named-first Open = refl
named-first Item = refl
named-first End = refl
named-first Total = refl

-- No two are spelled alike.
pub same-first : (first other : First) → first_word first ≡ first_word other → first ≡ other
same-first first other same = sym (named-first first) ∙ ap named same ∙ named-first other

-- ---- what a line says

says-item : (n : ℕ) (value : ItemValue) → first_of (item_line n value) ≡ Item
says-item n (ItemValue.cases values) = refl
says-item n (ItemValue.locked t) = refl
says-item n ItemValue.down = refl

says-total : (value : TotalValue) → first_of (total_line value) ≡ Total
says-total (TotalValue.sums values) = refl
says-total (TotalValue.sum_locked n) = refl
says-total (TotalValue.sum_down site) = refl
says-total (TotalValue.sum_limit names) = refl

first-with : (first : First) (x : Fields first) → first_of (line_with first x) ≡ first
first-with Txn x = refl
first-with Commit x = refl
first-with Refuse x = refl
first-with Full x = refl
first-with Spent x = refl
first-with Down x = refl
first-with Up x = refl
first-with Stopped x = refl
first-with Fault x = refl
first-with Started x = refl
first-with No x = refl
first-with Sent x = refl
first-with Order x = refl
first-with Committed x = refl
first-with Open x = refl
first-with Item x = says-item x.0 x.1
first-with End x = refl
first-with Total x = says-total x

abbrev pub Says : Line → First → Type 0
Says line first = (x : Fields first) × (line ≡ line_with first x)

pub says : (line : Line) → Says line (first_of line)
says (Line.txn t) = (t, refl)
says (Line.commit t replies) = ((t, replies), refl)
says (Line.refuse t cause) = ((t, cause), refl)
says (Line.full site length) = ((site, length), refl)
says (Line.spent site) = (site, refl)
says (Line.down site) = (site, refl)
says (Line.up site) = (site, refl)
says (Line.stopped site) = (site, refl)
says (Line.fault site) = (site, refl)
says (Line.started site epoch) = ((site, epoch), refl)
says (Line.no_message n) = (n, refl)
says (Line.sent n from to kind t) = ((n, from, to, kind, t), refl)
says (Line.order txns) = (txns, refl)
says (Line.committed txns) = (txns, refl)
says (Line.open_ones txns) = (txns, refl)
says (Line.item n cases) = ((n, ItemValue.cases cases), refl)
says (Line.item_locked n t) = ((n, ItemValue.locked t), refl)
says (Line.item_down n) = ((n, ItemValue.down), refl)
says Line.end = (tt, refl)
says (Line.total sums) = (TotalValue.sums sums, refl)
says (Line.total_locked n) = (TotalValue.sum_locked n, refl)
says (Line.total_down site) = (TotalValue.sum_down site, refl)
says (Line.total_limit names) = (TotalValue.sum_limit names, refl)

-- ---- lines by their words

pub rest-of : (catalog : Declared) (first : First) (rest : List (List ℕ)) (line : Line) → Says line first → rest ≡ rest_words catalog line → NamesOnlyItems catalog line → IsWithin line
    → (x : Fields first) × HasRest catalog first rest x × (line ≡ line_with first x)
rest-of catalog first rest line (x, same) are items within =
    (x, record { are = are ∙ ap (rest_words catalog) same; items = subst (NamesOnlyItems catalog) same items; within = subst IsWithin same within }, same)

pub line-found : (catalog : Declared) (words : List (List ℕ)) (word : List ℕ) (rest : List (List ℕ)) (first : First) (found : Option Line)
    → words ≡ word ∷ rest → word ≡ first_word first → IsRestOf catalog first rest found → IsLineOf catalog words found
line-found catalog words word rest first None split spelled none = λ line has.
    let head : word ≡ first_word (first_of line) = let all : word ∷ rest ≡ line_words catalog line = sym split ∙ has.are in cc in
    let tail : rest ≡ rest_words catalog line = let all : word ∷ rest ≡ line_words catalog line = sym split ∙ has.are in cc in
    let begins : first_of line ≡ first = same-first (first_of line) first (sym head ∙ spelled) in
    let x = rest-of catalog first rest line (subst (Says line) begins (says line)) tail has.items has.within in
    none x.0 x.1
line-found catalog words word rest first (Some line) split spelled (x, has, same) =
    let begins : first_of line ≡ first = ap first_of same ∙ first-with first x in
    let behind : rest ≡ rest_words catalog line = has.are ∙ ap (rest_words catalog) (sym same) in
    record {
      are = split ∙ ap₂ (λ (w : List ℕ) (ws : List (List ℕ)). w ∷ ws) (spelled ∙ ap first_word (sym begins)) behind;
      items = subst (NamesOnlyItems catalog) (sym same) has.items;
      within = subst IsWithin (sym same) has.within;
    }

pub line-empty : (catalog : Declared) (words : List (List ℕ)) → words ≡ [] → (line : Line) → HasWords catalog words line → ⊥
line-empty catalog words none line has = let never : [] ≡ line_words catalog line = sym none ∙ has.are in cc

pub line-unknown : (catalog : Declared) (words : List (List ℕ)) (word : List ℕ) (rest : List (List ℕ)) → words ≡ word ∷ rest
    → ((first : First) → word ≡ first_word first → ⊥) → (line : Line) → HasWords catalog words line → ⊥
line-unknown catalog words word rest split unknown line has =
    let head : word ≡ first_word (first_of line) = let all : word ∷ rest ≡ line_words catalog line = sym split ∙ has.are in cc in
    unknown (first_of line) head

-- The same where there may be no memory.
pub line-found-in : {E : Type 0} (catalog : Declared) (words : List (List ℕ)) (word : List ℕ) (rest : List (List ℕ)) (first : First) (result : Result (Option code.Line) E)
    → words ≡ word ∷ rest → word ≡ first_word first → IfOk result (λ found. IsRestOf catalog first rest (option_map line_of found))
    → IfOk result (λ found. IsLineOf catalog words (option_map line_of found))
line-found-in catalog words word rest first (Ok found) split spelled has = line-found catalog words word rest first (option_map line_of found) split spelled has
line-found-in catalog words word rest first (Err e) split spelled has = tt

-- ---- lines by their text

-- Words are no more than bytes, and one.
pub few-words : (text : List ℕ) (words : List (Bor (List ℕ))) → texts words ≡ slice_split is_space text → length words ≤ length text + 1
few-words text words split =
    let same = same-length words (slice_split is_space text) split in
    let count = length-slice_split is_space text in
    let most = count_by-le-length is_space text in
    omega (arith, same, count, most)

pub line-read : (catalog : Declared) (text : List ℕ) (words : List (List ℕ)) (found : Option code.Line) → AreNamed catalog → words ≡ slice_split is_space text
    → IsLineOf catalog words (option_map line_of found) → MatchOption found (IsPrintedForm catalog text → ⊥) (λ line. IsPrinted catalog text (line_of line))
line-read catalog text words None named split none = λ form.
    let line : Line = form.0 in
    let is : IsPrinted catalog text line = form.1 in
    let cut : slice_split is_space text ≡ line_words catalog line =
    ap (slice_split is_space) (is.is ∙ joined-line catalog line)
    ∙ split-joined (first_word (first_of line)) (rest_words catalog line) (free-line catalog line named is.items) in
    none line (record { are = split ∙ cut; items = is.items; within = is.within })
line-read catalog text words (Some line) named split has = record {
  is = sym (join_with_byte-slice_split 32 text) ∙ ap joined (sym split ∙ has.are) ∙ sym (joined-line catalog (line_of line));
  items = has.items;
  within = has.within;
}

-- The same where there may be no memory.
pub line-read-in : {E : Type 0} (catalog : Declared) (text : List ℕ) (words : List (List ℕ)) (result : Result (Option code.Line) E) → AreNamed catalog → words ≡ slice_split is_space text
    → IfOk result (λ found. IsLineOf catalog words (option_map line_of found))
    → IfOk result (λ found. MatchOption found (IsPrintedForm catalog text → ⊥) (λ line. IsPrinted catalog text (line_of line)))
line-read-in catalog text words (Ok found) named split has = line-read catalog text words found named split has
line-read-in catalog text words (Err e) named split has = tt
