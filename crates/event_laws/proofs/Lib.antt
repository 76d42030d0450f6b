mod MemberLemmas
mod SampleLemmas
pub mod EventRequests
