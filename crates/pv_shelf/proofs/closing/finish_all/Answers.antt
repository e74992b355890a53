-- The last reader is taken from the list.
use Rattle.std.proofs.Common.{◌≡◌, All, List, [], ◌∷◌, ◌++◌, sym, subst}
use Rattle.std.proofs.lemmas.List.Elements.{All-push}
use mathlib.Core.List.{IsPrefix}
use Rattle.pv_shelf.specs.Shelves.{seen}
use Rattle.pv_shelf.specs.declared.reader.ShelfReader.{ShelfReader}
use Rattle.pv_shelf.proofs.closing.finish_all.Goals as goal

last-too : {X : Type 0} (P : X → Type 0) (front xs : List X) (x : X) → xs ≡ front ++ x ∷ [] → All P front → P x → All P xs
last-too P front xs x is all its = subst (All P) (sym is) (All-push P front x all its)

pub loop-reader-preserved : goal.loop-reader-preserved
loop-reader-preserved g c =
    let Begins = λ (reader : ShelfReader). IsPrefix (seen reader) c.args.parts.now in
    λ all. c.loop-reader.invariant (last-too Begins c.pop.new.self.items c.loop-reader.readers.items c.in-Some.reader c.in-Some.ensures.items all c.finish.ensures)
