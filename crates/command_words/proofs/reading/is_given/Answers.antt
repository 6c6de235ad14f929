use Rattle.std.proofs.Common.{◌∙◌, Option, ap, sym, false, codes, List, ℕ}
use Rattle.std.specs.Option.{option_map_or}
use Rattle.std.specs.Str.{bytes_eq}
use Rattle.clap.specs.Matches.{found_of}
use Rattle.command_words.proofs.Texts.{none_read, text_read}
use Rattle.command_words.proofs.reading.is_given.Goals as goal

pub returns-in-Some : goal.returns-in-Some
returns-in-Some c = c.eq.ensures ∙ sym (ap (λ (o : Option (List ℕ)). option_map_or (λ t. bytes_eq t (codes "true")) o false)
    (text_read (found_of c.args.own.now) c.args.flag.now c.get_str.result c.get_str.ensures c.in-Some.text c.in-Some.is))

pub returns-in-None : goal.returns-in-None
returns-in-None c = sym (ap (λ (o : Option (List ℕ)). option_map_or (λ t. bytes_eq t (codes "true")) o false)
    (none_read (found_of c.args.own.now) c.args.flag.now c.get_str.result c.get_str.ensures c.in-None.is))
