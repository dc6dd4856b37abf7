use Rattle.std.proofs.Common.{◌≡◌, ap, ◌∙◌, rules, tests}
use Rattle.std.specs.Str.{bytes_eq}
use Rattle.std.proofs.lemmas.Iterator.{YieldsList-from_slice}
use Rattle.std.proofs.lemmas.Iterator.Search.{position_from_yields_List}
use Rattle.std.proofs.lemmas.Iterator.Adapters.{position_from-zero}
use Rattle.standard.specs.Letters.{read_level}
use Rattle.standard.proofs.LevelWords.{read_position}
use Rattle.standard.proofs.letters.LevelNames.level.Goals as goal

pub returns : goal.returns
returns g c =
    let all = c.level_names.result in
    let word = c.args.word.now in
    let same : c.map.result ≡ c.position.result = search rules in
    let at = position_from_yields_List (λ name. bytes_eq word name.now) _ _ c.position.result c.position.ensures.ran (YieldsList-from_slice all cc) (λ x t q k. search (rules, tests)) in
    same ∙ at ∙ position_from-zero (λ name. bytes_eq word name.now) all ∙ read_position word all ∙ ap (λ names. read_level names word) c.level_names.ensures
