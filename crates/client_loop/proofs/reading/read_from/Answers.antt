use Rattle.std.specs.Prelude.{◌≡◌, ◌+◌, length, take}
use Rattle.std.proofs.Common.{arith, refl}
use Rattle.std.proofs.lemmas.List.{length-take}
use Rattle.hub_acts.specs.declared.act.Act.TheVariants as act
use Rattle.hub_acts.specs.declared.answers.ReadAnswer.TheVariants as read
use Rattle.attentive_links.specs.Judging.{most_moved}
use Rattle.attentive_links.specs.Places.{at_reads, at_writes}
use Rattle.client_loop.proofs.TellSteps.{tell-step}
use Rattle.client_loop.proofs.Halts.{halt-none}
use Rattle.client_loop.proofs.ReadSteps.{pass-read, may-get, got-told, end-reads, failed-reads, none-reads}
use Rattle.client_loop.proofs.reading.read_from.Goals as goal

pub returns-then-not-watch : goal.returns-then-not-watch
returns-then-not-watch g c = λ r le st.
    pass-read g.C.Attendant.stands g.L.Link.state g.L.Link.leads r c.args.core.now c.args.link.now c.args.watch.now st c.if-not-watch.true

pub hear-requires : goal.hear-requires
hear-requires g c =
    let r = c.requires.there.0 in
    let size : length c.read.new.buf ≡ most_moved = omega (arith, c.requires.room) in
    may-get g.C.Attendant.stands g.L.Link.state g.L.Link.leads r c.args.core.now c.args.link.now c.args.watch.now c.requires.there.2 c.requires.there.1 (take c.in-Got.count c.read.new.buf) (let l = length-take c.in-Got.count c.read.new.buf in omega (arith, l, size))

pub returns-in-Got : goal.returns-in-Got
returns-in-Got g c = λ r le st.
    let size : length c.read.new.buf ≡ most_moved = omega (arith, c.requires.room) in
    tell-step g.C.Attendant.stands g.L.Link.state g.L.Link.leads r c.args.core.now c.hear.new.core c.args.link.now c.read.new.self c.args.watch.now c.hear.new.watch at_reads at_writes (act.LinkRead (length c.read.new.buf) (read.Got c.in-Got.count) (take c.in-Got.count c.read.new.buf)) (r.reads + 1) c.hear.result
    g.L.Link.goes_on (record { calls = c.in-Got.ensures.calls; led = c.in-Got.ensures.leads }) le st
    (got-told g.C.Attendant.stands g.L.Link.state g.L.Link.leads r c.args.core.now c.args.link.now c.args.watch.now st c.if-not-watch.false c.read.new.buf size c.in-Got.count (c.in-Got.ensures.fits.0, omega (arith, c.in-Got.ensures.fits.1)))
    (c.hear.ensures r.front st.judge.client st.goes st.stood)

pub returns-in-End : goal.returns-in-End
returns-in-End g c = λ r le st.
    let size : length c.read.new.buf ≡ most_moved = omega (arith, c.requires.room) in
    (refl, end-reads g.C.Attendant.stands g.L.Link.state g.L.Link.leads r c.args.core.now c.args.link.now c.args.watch.now st g.L.Link.goes_on c.read.new.self c.if-not-watch.false (length c.read.new.buf) size le (record { calls = c.in-End.ensures.calls; led = c.in-End.ensures.leads }))

pub returns-in-Failed : goal.returns-in-Failed
returns-in-Failed g c = λ r le st.
    let size : length c.read.new.buf ≡ most_moved = omega (arith, c.requires.room) in
    (refl, failed-reads g.C.Attendant.stands g.L.Link.state g.L.Link.leads r c.args.core.now c.args.link.now c.args.watch.now st g.L.Link.goes_on c.read.new.self c.if-not-watch.false (length c.read.new.buf) size le (record { calls = c.in-Failed.ensures.calls; led = c.in-Failed.ensures.leads }))

pub returns-in-NotNow : goal.returns-in-NotNow
returns-in-NotNow g c = λ r le st.
    let size : length c.read.new.buf ≡ most_moved = omega (arith, c.requires.room) in
    none-reads g.C.Attendant.stands g.L.Link.state g.L.Link.leads r c.args.core.now c.args.link.now c.args.watch.now st g.L.Link.goes_on c.read.new.self c.if-not-watch.false (length c.read.new.buf) size (record { calls = c.in-NotNow.ensures.calls; led = c.in-NotNow.ensures.leads })

pub returns-in-OutOfMemory : goal.returns-in-OutOfMemory
returns-in-OutOfMemory g c = λ r le st.
    (refl, halt-none g.C.Attendant.stands g.L.Link.state g.L.Link.leads r c.args.core.now c.args.link.now c.read.new.self c.args.watch.now at_reads r.waits (r.reads + 1) g.L.Link.goes_on c.in-OutOfMemory.ensures.calls c.in-OutOfMemory.ensures.leads le st)
