use Rattle.std.proofs.Common.{◌≡◌, ◌≢◌, ℕ, List, Bool, true, false, cond, ne_eqb, sym, ap, subst}
use Rattle.std.specs.Prelude.{codes}
use Rattle.client_script.specs.Texts.{devices_text}
use Rattle.client_script.specs.Written.{GainsText}
use Rattle.pool_status.specs.StatusText.{out_text}
use Rattle.pool_status.proofs.status_text.put_out.Goals as goal

-- Where some are out, they are listed.
some_are_listed : (out : ℕ) → out ≢ 0 → out_text out ≡ devices_text out
some_are_listed out some = ap (λ (b : Bool). cond b (codes " none") (devices_text out)) (ne_eqb out 0 some)

pub returns-else-is_empty-clause-gains : goal.returns-else-is_empty-clause-gains
returns-else-is_empty-clause-gains g c =
    let some : c.args.out_devices ≢ 0 = λ none. let empty : false ≡ true = c.if-is_empty.ensures.value.1 none in cc in
    subst (λ (l : List ℕ). GainsText (g.K.Sink.held c.args.out.now) (g.K.Sink.held c.devices.new.out) c.args.writer.now c.devices.new.self l)
    (sym (some_are_listed c.args.out_devices some))
    (subst (λ (n : ℕ). GainsText (g.K.Sink.held c.args.out.now) (g.K.Sink.held c.devices.new.out) c.args.writer.now c.devices.new.self (devices_text n))
    c.bits.ensures.value c.devices.ensures.gains)
