use Rattle.pv_args.specs.Found.{rows_in}
use Rattle.pv_slope.specs.declared.form.Form.TheVariants.{Plain, Centered}
use Rattle.pv_request.specs.Requests.{runs, resumes, merges, audits, draws, samples, seeks, keeps}
use Rattle.pv_args.proofs.Asked.{read_as}
use Rattle.pv_args.proofs.reading.command_in.Goals as goal

pub returns-in-run : goal.returns-in-run
returns-in-run c = read_as c.args.command.now (rows_in c.args.found.now) (runs Plain) c.run_in.result c.in-run.is c.run_in.ensures

pub returns-in-resume : goal.returns-in-resume
returns-in-resume c = read_as c.args.command.now (rows_in c.args.found.now) resumes c.resume_in.result c.in-resume.is c.resume_in.ensures

pub returns-in-merge : goal.returns-in-merge
returns-in-merge c = read_as c.args.command.now (rows_in c.args.found.now) merges c.merge_in.result c.in-merge.is c.merge_in.ensures

pub returns-in-audit : goal.returns-in-audit
returns-in-audit c = read_as c.args.command.now (rows_in c.args.found.now) (audits Plain) c.audit_in.result c.in-audit.is c.audit_in.ensures

pub returns-in-svg : goal.returns-in-svg
returns-in-svg c = read_as c.args.command.now (rows_in c.args.found.now) draws c.svg_in.result c.in-svg.is c.svg_in.ensures

pub returns-in-sample : goal.returns-in-sample
returns-in-sample c = read_as c.args.command.now (rows_in c.args.found.now) samples c.sample_in.result c.in-sample.is c.sample_in.ensures

pub returns-in-text : goal.returns-in-text
returns-in-text c = read_as c.args.command.now (rows_in c.args.found.now) (runs Centered) c.run_in-in-text.result c.in-text.is c.run_in-in-text.ensures

pub returns-in-text-2 : goal.returns-in-text-2
returns-in-text-2 c = read_as c.args.command.now (rows_in c.args.found.now) (audits Centered) c.audit_in-in-text-2.result c.in-text-2.is c.audit_in-in-text-2.ensures

pub returns-in-least : goal.returns-in-least
returns-in-least c = read_as c.args.command.now (rows_in c.args.found.now) seeks c.least_in.result c.in-least.is c.least_in.ensures

pub returns-in-campaign : goal.returns-in-campaign
returns-in-campaign c = read_as c.args.command.now (rows_in c.args.found.now) keeps c.campaign_in.result c.in-campaign.is c.campaign_in.ensures
