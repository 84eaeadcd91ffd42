use Rattle.std.proofs.Common.{ap, ◌∙◌}
use Rattle.generated_texts.specs.declared.texts.Texts.{Texts}
use Rattle.share_commands.proofs.Generated.{short_config, config_none, script_none, trace_none, spell}
use Rattle.share_commands.proofs.generating.summary_of.Goals as goal

pub parse_config-requires : goal.parse_config-requires
parse_config-requires c =
    short_config c.args.n c.as_slice.result.now (c.as_slice.ensures ∙ ap (λ (t : Texts). t.config) c.in-Ok.ensures)

pub returns-in-Err : goal.returns-in-Err
returns-in-Err c =
    config_none c.args.n c.as_slice.result.now c.in-Err.end (c.as_slice.ensures ∙ ap (λ (t : Texts). t.config) c.in-Ok.ensures) c.in-Err.ensures

pub returns-in-Err-parse_script : goal.returns-in-Err-parse_script
returns-in-Err-parse_script c =
    let config_is = c.as_slice.ensures ∙ ap (λ (t : Texts). t.config) c.in-Ok.ensures in
    let script_is = c.as_slice-2.ensures ∙ ap (λ (t : Texts). t.script) c.in-Ok.ensures in
    script_none c.args.n c.as_slice.result.now c.as_slice-2.result.now c.in-Ok-parse_config.config c.in-Err-parse_script.end config_is c.in-Ok-parse_config.ensures script_is c.in-Err-parse_script.ensures.spells

pub returns-in-Err-parse_trace : goal.returns-in-Err-parse_trace
returns-in-Err-parse_trace c =
    trace_none c.args.n c.as_slice-3.result.now c.in-Err-parse_trace.end (c.as_slice-3.ensures ∙ ap (λ (t : Texts). t.trace) c.in-Ok.ensures) c.in-Err-parse_trace.ensures

pub returns-in-Ok-count_run : goal.returns-in-Ok-count_run
returns-in-Ok-count_run c = record {
  config = c.in-Ok-parse_config.config;
  script = c.in-Ok-parse_script.script;
  trace = c.in-Ok-parse_trace.trace;
  spell = spell c.args.n c.as_slice.result.now c.as_slice-2.result.now c.as_slice-3.result.now c.in-Ok-parse_config.config c.in-Ok-parse_script.script c.in-Ok-parse_trace.trace
      (c.as_slice.ensures ∙ ap (λ (t : Texts). t.config) c.in-Ok.ensures) (c.as_slice-2.ensures ∙ ap (λ (t : Texts). t.script) c.in-Ok.ensures) (c.as_slice-3.ensures ∙ ap (λ (t : Texts). t.trace) c.in-Ok.ensures)
      c.in-Ok-parse_config.ensures c.in-Ok-parse_script.ensures.spells c.in-Ok-parse_trace.ensures;
  comes = c.in-Ok-count_run.ensures;
}
