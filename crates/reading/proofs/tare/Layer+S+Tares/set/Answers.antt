-- A tare that is set is its channel's alone.
use Rattle.std.proofs.Common.{◌≡◌, ◌<◌, length, set, Some, ap, ◌∙◌, rules}
use Rattle.std.proofs.lemmas.List.{length-map, map-set}
use Rattle.weight.specs.declared.weight.Weight.{Weight}
use Rattle.reading.specs.Answers.{place_of}
use Rattle.reading.specs.OfTare.{grams_each, tared_answer}
use Rattle.reading.proofs.Layers.{tares_set}
use Rattle.reading.proofs.tare.Layer+S+Tares.set.Goals as goal

pub returns : goal.returns
returns g c =
    let below = g.S.ReadingSource.answers c.args.self.now.below in
    let each = c.args.self.now.setting.each in
    let tares = grams_each each in
    let i = c.in_ok-place.place in
    let there : place_of c.args.channel ≡ Some i = search rules in
    let made : c.in_ok-tare.tare.grams ≡ c.args.grams = search rules in
    let room : i < length tares = rw length-map (search rules) in
    let written : grams_each (set each i c.in_ok-tare.tare) ≡ set tares i c.args.grams =
    map-set (λ (w : Weight). w.grams) each i c.in_ok-tare.tare ∙ ap (set tares i) made
    in
    record {
      answer = search rules;
      tares = search rules;
      below = search rules;
      meaning = λ k. ap (λ ts. tared_answer below ts k) written ∙ tares_set below tares c.args.channel k i c.args.grams there room;
    }
