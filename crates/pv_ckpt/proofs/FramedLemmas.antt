-- A content of a block, as it is read: its length, and then so many bytes.
use Rattle.std.proofs.Common.{◌≡◌, inl, inr, ℕ, ◌+◌, ◌^◌, ◌<◌, ◌≤◌, List, [], ◌++◌, Option, Some, None, Result, Ok, Err, length, take, drop, sym, ◌∙◌, ap, arith, append_assoc, length-append, length-take}
use Rattle.std.specs.Prelude.{IfOk}
use Rattle.std.specs.Io.KnownBytes.{Appends}
use Rattle.std.proofs.lemmas.List.{append-nil, drop-drop, take-append-drop, take-take}
use Rattle.pv_base.specs.BigEndian.{big_endian}
use Rattle.pv_base.proofs.BigEndianLemmas.{length-big_endian}
use Rattle.pv_disk_model.specs.DiskModel.{DiskModel}
use Rattle.pv_disk_model.specs.Disk.{Gives}
use Rattle.pv_format.specs.Journal.{framed}
use Rattle.pv_law_journal.proofs.SizeLemmas.{length-framed}
use Rattle.pv_ckpt.specs.Reading.{BeginsAt, IsCutBefore, LacksLength}
use Rattle.pv_ckpt.proofs.PackLemmas.{count_told}

nothing_added : (given : Option (List ℕ)) → Appends given given []
nothing_added None = tt
nothing_added (Some bytes) = sym (append-nil bytes)

-- Without a read nothing is given.
pub gives_nothing : {D : Type 0} (M : DiskModel D) (disk : D) → Gives M disk disk []
gives_nothing M disk = nothing_added (M.given disk)

-- It stands there as it was read.
pub framed_stands : (bytes number content : List ℕ) (place count : ℕ) → number ≡ take 4 (drop place bytes) → big_endian 4 count ≡ number → content ≡ take count (drop (place + 4) bytes)
    → length content ≡ count → BeginsAt bytes place (framed content)
framed_stands bytes number content place count is spelled content_is size =
    let rest = drop place bytes in
    let own = big_endian 4 (length content) in
    let tail = drop count (drop 4 rest) in
    let front : take 4 rest ≡ own = sym is ∙ sym spelled ∙ ap (big_endian 4) (sym size) in
    let first : take count (drop 4 rest) ≡ content = ap (λ (l : List ℕ). take count l) (drop-drop 4 place bytes) ∙ sym content_is in
    let behind : drop 4 rest ≡ content ++ tail = sym (take-append-drop count (drop 4 rest)) ∙ ap (λ (l : List ℕ). l ++ tail) first in
    (tail, sym (take-append-drop 4 rest) ∙ (λ i. front i ++ behind i) ∙ sym (append_assoc own content tail))

-- And it was given so.
pub framed_given : (number content : List ℕ) (count : ℕ) → big_endian 4 count ≡ number → length content ≡ count → number ++ content ≡ framed content
framed_given number content count spelled size = ap (λ (l : List ℕ). l ++ content) (sym spelled ∙ ap (big_endian 4) (sym size))

-- Fewer bytes than a length has.
pub cut_short : (rest : List ℕ) (left : ℕ) → left < 4 → IsCutBefore rest left
cut_short rest left few content more short is = absurd (omega (arith, ap length is, length-append (framed content) more, length-framed content, length-take left rest, few))

-- Fewer bytes than the length says.
pub cut_far : (rest number : List ℕ) (left count : ℕ) → number ≡ take 4 rest → big_endian 4 count ≡ number → count < 2 ^ 32 → 4 ≤ left → left < 4 + count → IsCutBefore rest left
cut_far rest number left count is spelled fits long far content more short same =
    let front : number ≡ take 4 (framed content ++ more) = is ∙ sym (take-take 4 left rest long) ∙ ap (λ (l : List ℕ). take 4 l) same in
    let told = count_told content more number count front spelled fits short in
    absurd (omega (arith, ap length same, length-append (framed content) more, length-framed content, length-take left rest, told, far))

-- What was read of a length that isn't there lies in the block.
pub lacking_within : (read : List ℕ) (left : ℕ) → LacksLength read left → length read ≤ left
lacking_within read left (inl (is, few)) = omega (arith, ap length is)
lacking_within read left (inr (count, fits, is, room, far)) = omega (arith, ap length is, length-big_endian 4 count, room)

-- What follows of an answer from two clauses on it.
pub IfOk-both : {X E : Type 0} (P Q R : X → Type 0) (result : Result X E) → IfOk result P → IfOk result Q → ((x : X) → P x → Q x → R x) → IfOk result R
IfOk-both P Q R (Ok x) p q follows = follows x p q
IfOk-both P Q R (Err e) p q follows = tt
