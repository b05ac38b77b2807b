mod Numbers
mod Findings
